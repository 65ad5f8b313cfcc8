use mathlib.Core.Path.{sym, ◌∙◌}
use Rattle.geometry_code.proofs.Branches.{answers_left}
use Rattle.trapezoids_code.proofs.Placed.{right_second, right_first}
use Rattle.trapezoids_code.proofs.common_right.Goals as goal

pub returns-then-is_left : goal.returns-then-is_left
returns-then-is_left c =
    let h = c.requires in
    right_first c.args.a c.args.b h (answers_left h.first.right.small h.second.right.small c.compare.ensures ∙ sym c.is_left.ensures ∙ c.if-is_left.true)

pub returns-else-is_left : goal.returns-else-is_left
returns-else-is_left c =
    let h = c.requires in
    right_second c.args.a c.args.b h (answers_left h.first.right.small h.second.right.small c.compare.ensures ∙ sym c.is_left.ensures ∙ c.if-is_left.false)
