use mathlib.Core.Path.{sym, ◌∙◌, ap}
use mathlib.Core.Bool.{not}
use Rattle.geometry_code.specs.Code.{fraction_of}
use Rattle.geometry_code.proofs.Branches.{answers_left}
use Rattle.columns_code.proofs.SideOrder.{range_left, range_right}
use Rattle.columns_code.proofs.in_range.Goals as goal

pub returns-then-not-is_left : goal.returns-then-not-is_left
returns-then-not-is_left c =
    let h = c.requires in
    range_right c.args.a (fraction_of c.args.at) h.0
    (answers_left h.1 h.0.left.small c.compare.ensures ∙ sym c.is_left.ensures ∙ c.if-not-is_left.true)
    (c.is_left-then-not-is_left.ensures ∙ sym (answers_left h.1 h.0.right.small c.compare-then-not-is_left.ensures))

pub returns-else-not-is_left : goal.returns-else-not-is_left
returns-else-not-is_left c =
    let h = c.requires in
    ap not c.if-not-is_left.false
    ∙ range_left c.args.a (fraction_of c.args.at) h.0 (answers_left h.1 h.0.left.small c.compare.ensures ∙ sym c.is_left.ensures ∙ c.if-not-is_left.false)
