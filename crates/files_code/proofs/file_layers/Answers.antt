use Rattle.std.proofs.lemmas.Result.{err_from_is_err_and}
use mathlib.Core.Path.{◌∙◌, ap}
use Prim.Native.Nat.{◌+◌, ◌*◌}
use native.Mathlib.Omega.{arith}
use Rattle.lists.proofs.Parts.{mid_tail}
use Rattle.files.specs.Formats.{file_words, layer_file}
use Rattle.files.specs.Contents.{file_codec}
use Rattle.files.proofs.Layers.{layers_wrong, layers_right}
use Rattle.files.proofs.Reading.{length_file, body_words}
use Rattle.files_code.proofs.Directories.{pairs_found, pairs_right, pairs_refused}
use Rattle.files_code.proofs.file_layers.Goals as goal

pub overflow_mul-start : goal.overflow_mul-start
overflow_mul-start c =
    record { fits = omega (arith, (pairs_right layer_file (file_words c.args.file.now) c.layer_format.ensures c.in_ok-d.ensures).most) }

pub overflow_add-start : goal.overflow_add-start
overflow_add-start c =
    record { fits = omega (arith, (pairs_right layer_file (file_words c.args.file.now) c.layer_format.ensures c.in_ok-d.ensures).most) }

pub overflow_mul-start-2 : goal.overflow_mul-start-2
overflow_mul-start-2 c =
    record { fits = omega (arith, (pairs_right layer_file (file_words c.args.file.now) c.layer_format.ensures c.in_ok-d.ensures).most) }

pub slice_bounds-body_refused-count : goal.slice_bounds-body_refused-count
slice_bounds-body_refused-count c =
    omega (arith, (pairs_right layer_file (file_words c.args.file.now) c.layer_format.ensures c.in_ok-d.ensures).fit, length_file c.args.file.now)

pub slice_bounds-body_refused-start : goal.slice_bounds-body_refused-start
slice_bounds-body_refused-start c =
    omega (arith, (pairs_right layer_file (file_words c.args.file.now) c.layer_format.ensures c.in_ok-d.ensures).fit, length_file c.args.file.now)

pub returns : goal.returns
returns c =
    let bs = c.args.file.now in
    let n = c.in_ok-d.d.count in
    c.body_refused.ensures
    ∙ layers_right c.args.limit layer_file file_codec (file_words bs) (pairs_found layer_file (file_words bs) c.layer_format.ensures c.in_ok-d.ensures) (ap file_words (mid_tail (4 * (2 * n + 1)) bs) ∙ body_words bs (2 * n + 1))

pub returns-in_err-d : goal.returns-in_err-d
returns-in_err-d c =
    let p = err_from_is_err_and c.from_residual.result c.from_residual.ensures.1 in
    rw (p.1, p.2) (layers_wrong c.args.limit layer_file file_codec (file_words c.args.file.now) (pairs_refused layer_file (file_words c.args.file.now) c.layer_format.ensures c.in_err-d.ensures))
