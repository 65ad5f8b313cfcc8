use mathlib.Core.Path.{◌∙◌}
use Rattle.std.proofs.lemmas.Result.{err_from_is_err_and}
use Rattle.calls.specs.Components.{components_checked}
use Rattle.rows_code.proofs.Rows.{row_refuses, row_passes}
use Rattle.rows_code.proofs.components_checked.Goals as goal

pub returns-in_err-row : goal.returns-in_err-row
unfolding components_checked
returns-in_err-row c =
    let p = err_from_is_err_and c.from_residual.result c.from_residual.ensures.1 in
    rw (p.1, p.2) (row_refuses _ _ c.lists_sized.ensures c.in_err-row.ensures)

pub returns : goal.returns
unfolding components_checked
returns c = c.first_refused.ensures ∙ row_passes _ _ c.lists_sized.ensures c.in_ok-row.ensures
