use mathlib.Core.Path.{sym, ◌∙◌}
use lib.ListN.{length}
use Rattle.lists.proofs.Conjunction.{and_left, and_right}
use Rattle.calls.proofs.Rows.{sized_most}
use Rattle.std.proofs.lemmas.Result.{err_from_is_err_and}
use Rattle.calls.specs.Transistors.{transistors_checked}
use Rattle.rows_code.proofs.Rows.{row_refuses, row_passes, row_true}
use Rattle.rows_code.proofs.transistors_checked.Goals as goal

pub returns-in_err-row : goal.returns-in_err-row
unfolding transistors_checked
returns-in_err-row c =
    let p = err_from_is_err_and c.from_residual.result c.from_residual.ensures.1 in
    rw (p.1, p.2) (row_refuses _ _ c.three_sized.ensures c.in_err-row.ensures)

pub three_checked-requires : goal.three_checked-requires
three_checked-requires c =
    let h = sym c.three_sized.ensures ∙ row_true _ c.in_ok-row.ensures in
    (c.requires, sized_most (length c.args.collectors.now) (and_left _ _ h), sized_most (length c.args.bases.now) (and_left _ _ (and_right _ _ h)))

pub returns : goal.returns
unfolding transistors_checked
returns c = c.three_checked.ensures ∙ row_passes _ _ c.three_sized.ensures c.in_ok-row.ensures
