use mathlib.Core.Path.{◌≡◌, sym, ◌∙◌}
use Rattle.integer.specs.Fraction.{before}
use Rattle.geometry_code.specs.Code.{fraction_of}
use Rattle.geometry_code.proofs.Branches.{answers_left}
use Rattle.polygon_events_code.proofs.Branches.{inside_yes, inside_no}
use Rattle.polygon_events_code.proofs.is_inside.Goals as goal

pub returns-then-is_left : goal.returns-then-is_left
returns-then-is_left c =
    let after : before (fraction_of c.span_of-s.result.from) (fraction_of c.args.p) ≡ c.is_left.result = answers_left c.span_of-s.ensures.from.small c.requires.0 c.compare.ensures ∙ sym c.is_left.ensures in
    let upto : before (fraction_of c.args.p) (fraction_of c.span_of-s.result.to) ≡ c.is_left-then-is_left.result = answers_left c.requires.0 c.span_of-s.ensures.to.small c.compare-then-is_left.ensures ∙ sym c.is_left-then-is_left.ensures in
    inside_yes c.args.p c.args.l _ c.span_of-s.ensures (after ∙ c.if-is_left.true) (sym (upto))

pub returns-else-is_left : goal.returns-else-is_left
returns-else-is_left c =
    let after : before (fraction_of c.span_of-s.result.from) (fraction_of c.args.p) ≡ c.is_left.result = answers_left c.span_of-s.ensures.from.small c.requires.0 c.compare.ensures ∙ sym c.is_left.ensures in
    c.if-is_left.false ∙ inside_no c.args.p c.args.l _ c.span_of-s.ensures (after ∙ c.if-is_left.false)
