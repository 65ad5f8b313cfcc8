use mathlib.Core.Path.{refl, ◌∙◌}
use Rattle.std.proofs.lemmas.Result.{err_from_is_err_and}
use Rattle.calls.specs.Rows.{fracture_checked}
use Rattle.rows_code.proofs.Rows.{row_refuses, row_passes}
use Rattle.rows_code.proofs.fracture_checked.Goals as goal

pub returns-in_err-row : goal.returns-in_err-row
unfolding fracture_checked
returns-in_err-row c =
    let p = err_from_is_err_and c.from_residual.result c.from_residual.ensures.1 in
    rw (p.1, p.2) (row_refuses _ _ c.buffers_sized.ensures c.in_err-row.ensures)

pub returns-in_err-row-2 : goal.returns-in_err-row-2
unfolding fracture_checked
returns-in_err-row-2 c =
    let p = err_from_is_err_and c.from_residual-in_err-row-2.result c.from_residual-in_err-row-2.ensures.1 in
    rw (p.1, p.2) (row_refuses _ _ refl c.in_err-row-2.ensures ∙ row_passes _ _ c.buffers_sized.ensures c.in_ok-row.ensures)

pub returns : goal.returns
unfolding fracture_checked
returns c = c.check_polygon_file.ensures ∙ row_passes _ _ refl c.in_ok-row-2.ensures ∙ row_passes _ _ c.buffers_sized.ensures c.in_ok-row.ensures
