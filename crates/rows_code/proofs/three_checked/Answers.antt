use Rattle.std.proofs.lemmas.Result.{err_from_is_err_and}
use mathlib.Core.Path.{sym, ◌∙◌}
use Rattle.rows_code.proofs.Transistors.{third_decides, two_refuse}
use Rattle.rows_code.proofs.three_checked.Goals as goal

pub returns-in_err-both_checked : goal.returns-in_err-both_checked
returns-in_err-both_checked c =
    let s = c.args in
    let p = err_from_is_err_and c.from_residual.result c.from_residual.ensures.1 in
    rw (p.1, p.2) (two_refuse s.limit s.a.now s.b.now s.c.now (sym c.in_err-both_checked.ensures))

pub returns : goal.returns
returns c =
    let s = c.args in
    c.first_refused.ensures ∙ third_decides s.limit s.a.now s.b.now s.c.now (sym c.in_ok-both_checked.ensures)
