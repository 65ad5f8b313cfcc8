use Rattle.std.proofs.lemmas.Result.{err_from_is_err_and}
use mathlib.Core.Path.{sym, ◌∙◌, ap}
use Prim.Native.Nat.{ℕ}
use Rattle.records.specs.Records.{count}
use Rattle.records.proofs.Records.{length_from}
use Rattle.geometry.specs.Trapezoids.{trapezoid_codec, layer_of}
use Rattle.geometry.specs.Fitness.{first_refusal}
use Rattle.rows_code.proofs.Refusals.{first_passed, first_refused}
use Rattle.rows_code.proofs.both_checked.Goals as goal

pub returns-in_err-first_refused : goal.returns-in_err-first_refused
returns-in_err-first_refused c =
    let s = c.args in
    let p = err_from_is_err_and c.from_residual.result c.from_residual.ensures.1 in
    rw (p.1, p.2) (first_refused s.limit (layer_of s.a.now) (layer_of s.b.now) (sym c.in_err-first_refused.ensures))

pub returns : goal.returns
returns c =
    let s = c.args in
    let n = length_from trapezoid_codec (count trapezoid_codec s.a.now) s.a.now 0 in
    c.first_refused-2.ensures ∙ ap (λ (i : ℕ). first_refusal s.limit i (layer_of s.b.now)) (sym n)
    ∙ first_passed s.limit (layer_of s.a.now) (layer_of s.b.now) (sym c.in_ok-first_refused.ensures)
