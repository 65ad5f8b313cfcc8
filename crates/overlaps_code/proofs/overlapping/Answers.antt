use mathlib.Core.Path.{sym, ◌∙◌, ap₂}
use Rattle.integer.specs.Fraction.{before}
use Rattle.geometry_code.proofs.Branches.{answers_left}
use Rattle.overlaps_code.proofs.Window.{apart}
use Rattle.overlaps_code.proofs.overlapping.Goals as goal

pub returns-then-is_left : goal.returns-then-is_left
returns-then-is_left c =
    let lo = c.common_left-lo.ensures in
    let hi = c.common_right-hi.ensures in
    c.overlapping_by.ensures _ _ (record { bottom_top = c.meeting_of.ensures; top_bottom = c.meeting_of-then-is_left.ensures }) lo.is hi.is
    (answers_left lo.small hi.small c.compare.ensures ∙ sym c.is_left.ensures ∙ c.if-is_left.true)

pub returns-else-is_left : goal.returns-else-is_left
returns-else-is_left c =
    let lo = c.common_left-lo.ensures in
    let hi = c.common_right-hi.ensures in
    let s = c.args in
    c.if-is_left.false
    ∙ apart s.a.shape s.b.shape (sym (ap₂ before lo.is hi.is) ∙ answers_left lo.small hi.small c.compare.ensures ∙ sym c.is_left.ensures ∙ c.if-is_left.false)
