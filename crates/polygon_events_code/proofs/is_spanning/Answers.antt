use mathlib.Core.Path.{◌≡◌, sym, ◌∙◌, ap}
use mathlib.Core.Bool.{not}
use Rattle.integer.specs.Fraction.{before}
use Rattle.geometry_code.specs.Code.{fraction_of}
use Rattle.geometry_code.proofs.Branches.{answers_left}
use Rattle.polygon_events_code.proofs.Branches.{spans_yes, spans_no}
use Rattle.polygon_events_code.proofs.is_spanning.Goals as goal

pub returns-then-not-is_left : goal.returns-then-not-is_left
returns-then-not-is_left c =
    let earlier : before (fraction_of c.args.p) (fraction_of c.span_of-s.result.from) ≡ c.is_left.result = answers_left c.requires.0 c.span_of-s.ensures.from.small c.compare.ensures ∙ sym c.is_left.ensures in
    let after : before (fraction_of c.args.p) (fraction_of c.span_of-s.result.to) ≡ c.is_left-then-not-is_left.result = answers_left c.requires.0 c.span_of-s.ensures.to.small c.compare-then-not-is_left.ensures ∙ sym c.is_left-then-not-is_left.ensures in
    spans_yes c.args.p c.args.l _ c.span_of-s.ensures (earlier ∙ c.if-not-is_left.true) (sym after)

pub returns-else-not-is_left : goal.returns-else-not-is_left
returns-else-not-is_left c =
    let earlier : before (fraction_of c.args.p) (fraction_of c.span_of-s.result.from) ≡ c.is_left.result = answers_left c.requires.0 c.span_of-s.ensures.from.small c.compare.ensures ∙ sym c.is_left.ensures in
    ap not c.if-not-is_left.false ∙ spans_no c.args.p c.args.l _ c.span_of-s.ensures (earlier ∙ c.if-not-is_left.false)
