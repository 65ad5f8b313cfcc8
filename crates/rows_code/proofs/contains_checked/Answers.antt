use mathlib.Core.Path.{sym, refl, ◌∙◌}
use lib.ListN.{length}
use Rattle.lists.proofs.Conjunction.{and_left}
use Rattle.calls.proofs.Rows.{sized_most}
use Rattle.std.proofs.lemmas.Result.{err_from_is_err_and}
use Rattle.calls.specs.Rows.{contains_checked}
use Rattle.rows_code.proofs.Rows.{row_refuses, row_passes, row_true}
use Rattle.rows_code.proofs.contains_checked.Goals as goal

pub returns-in_err-row : goal.returns-in_err-row
unfolding contains_checked
returns-in_err-row c =
    let p = err_from_is_err_and c.from_residual.result c.from_residual.ensures.1 in
    rw (p.1, p.2) (row_refuses _ _ c.layers_sized.ensures c.in_err-row.ensures)

pub returns-in_err-row-2 : goal.returns-in_err-row-2
unfolding contains_checked
returns-in_err-row-2 c =
    let p = err_from_is_err_and c.from_residual-in_err-row-2.result c.from_residual-in_err-row-2.ensures.1 in
    rw (p.1, p.2) (row_refuses _ _ refl c.in_err-row-2.ensures ∙ row_passes _ _ c.layers_sized.ensures c.in_ok-row.ensures)

pub returns-in_err-row-3 : goal.returns-in_err-row-3
unfolding contains_checked
returns-in_err-row-3 c =
    let p = err_from_is_err_and c.from_residual-in_err-row-3.result c.from_residual-in_err-row-3.ensures.1 in
    rw (p.1, p.2) (row_refuses _ _ c.point_passes.ensures c.in_err-row-3.ensures ∙ row_passes _ _ refl c.in_ok-row-2.ensures ∙ row_passes _ _ c.layers_sized.ensures c.in_ok-row.ensures)

pub both_checked-requires : goal.both_checked-requires
both_checked-requires c =
    (c.requires, sized_most (length c.args.a.now) (and_left _ _ (sym c.layers_sized.ensures ∙ row_true _ c.in_ok-row.ensures)))

pub returns : goal.returns
unfolding contains_checked
returns c = c.both_checked.ensures ∙ row_passes _ _ c.point_passes.ensures c.in_ok-row-3.ensures ∙ row_passes _ _ refl c.in_ok-row-2.ensures ∙ row_passes _ _ c.layers_sized.ensures c.in_ok-row.ensures
