use Rattle.std.proofs.lemmas.Result.{err_from_is_err_and}
use mathlib.Core.Path.{◌∙◌}
use Prim.Native.Nat.{◌+◌, ◌*◌}
use native.Mathlib.Omega.{arith}
use Rattle.lists.proofs.Parts.{mid_tail}
use Rattle.geometry.specs.Trapezoids.{trapezoid_codec}
use Rattle.files.specs.Formats.{layer_words}
use Rattle.files.proofs.Layers.{layers_wrong, layers_right}
use Rattle.files_code.proofs.Directories.{pairs_found, pairs_right, pairs_refused}
use Rattle.files_code.proofs.check_layer_words.Goals as goal

pub overflow_mul-start : goal.overflow_mul-start
overflow_mul-start c =
    record { fits = omega (arith, (pairs_right layer_words c.args.words.now c.memory_format.ensures c.in_ok-d.ensures).most) }

pub overflow_add-start : goal.overflow_add-start
overflow_add-start c =
    record { fits = omega (arith, (pairs_right layer_words c.args.words.now c.memory_format.ensures c.in_ok-d.ensures).most) }

pub offset_bounds-words-start : goal.offset_bounds-words-start
offset_bounds-words-start c =
    record { fits = omega (arith, (pairs_right layer_words c.args.words.now c.memory_format.ensures c.in_ok-d.ensures).most) }

pub slice_bounds-first_refused-count : goal.slice_bounds-first_refused-count
slice_bounds-first_refused-count c = (pairs_right layer_words c.args.words.now c.memory_format.ensures c.in_ok-d.ensures).fit

pub slice_bounds-first_refused-start : goal.slice_bounds-first_refused-start
slice_bounds-first_refused-start c = (pairs_right layer_words c.args.words.now c.memory_format.ensures c.in_ok-d.ensures).fit

pub returns : goal.returns
returns c =
    let ws = c.args.words.now in
    c.first_refused.ensures
    ∙ layers_right c.args.limit layer_words trapezoid_codec ws (pairs_found layer_words ws c.memory_format.ensures c.in_ok-d.ensures) (mid_tail (2 * c.in_ok-d.d.count + 1) ws)

pub returns-in_err-d : goal.returns-in_err-d
returns-in_err-d c =
    let p = err_from_is_err_and c.from_residual.result c.from_residual.ensures.1 in
    rw (p.1, p.2) (layers_wrong c.args.limit layer_words trapezoid_codec c.args.words.now (pairs_refused layer_words c.args.words.now c.memory_format.ensures c.in_err-d.ensures))
