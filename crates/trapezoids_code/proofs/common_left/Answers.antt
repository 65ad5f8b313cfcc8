use mathlib.Core.Path.{sym, ◌∙◌}
use Rattle.geometry_code.proofs.Branches.{answers_left}
use Rattle.trapezoids_code.proofs.Placed.{left_second, left_first}
use Rattle.trapezoids_code.proofs.common_left.Goals as goal

pub returns-then-is_left : goal.returns-then-is_left
returns-then-is_left c =
    let h = c.requires in
    left_second c.args.a c.args.b h (answers_left h.first.left.small h.second.left.small c.compare.ensures ∙ sym c.is_left.ensures ∙ c.if-is_left.true)

pub returns-else-is_left : goal.returns-else-is_left
returns-else-is_left c =
    let h = c.requires in
    left_first c.args.a c.args.b h (answers_left h.first.left.small h.second.left.small c.compare.ensures ∙ sym c.is_left.ensures ∙ c.if-is_left.false)
