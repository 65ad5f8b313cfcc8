use mathlib.Core.Path.{sym, ◌∙◌, ap, subst}
use Rattle.lists.proofs.Tests.{true_is, false_is}
use Rattle.integer.specs.Fraction.{Fraction, before}
use Rattle.geometry.specs.Ranges.{crossing}
use Rattle.geometry_code.specs.Code.{fraction_of}
use Rattle.geometry_code.proofs.Branches.{answers_left}
use Rattle.overlaps_code.specs.Code.{CrossingBetween}
use Rattle.overlaps_code.proofs.Window.{between_parallel, between_left, between_right, between_inside}
use Rattle.overlaps_code.proofs.meeting_between.Goals as goal
use Rattle.overlaps_code.proofs.meeting_between.Goals.{else-is_left-via-then-is_left+else-is_left-2, else-is_left-via-else-is_left}

pub returns-in_err-p-clause-meeting_between : goal.returns-in_err-p-clause-meeting_between
returns-in_err-p-clause-meeting_between c = λ l m h.
    let lo = fraction_of c.args.lo in
    let hi = fraction_of c.args.hi in
    subst (CrossingBetween lo hi l m) (sym c.from_residual.ensures) (between_parallel lo hi (crossing l m) (false_is (c.in_err-p.ensures.crossing_by l m h)))

pub returns-then-is_left-2-clause-meeting_between : goal.returns-then-is_left-2-clause-meeting_between
returns-then-is_left-2-clause-meeting_between c = λ l m h.
    let lo = fraction_of c.args.lo in
    let hi = fraction_of c.args.hi in
    let k = c.in_ok-p.ensures.crossing_by l m h in
    let after = ap (before lo) (sym k.1) ∙ answers_left c.requires.1 k.2 c.compare.ensures ∙ sym c.is_left.ensures ∙ c.if-is_left.true in
    let earlier = ap (λ (x : Fraction). before x hi) (sym k.1) ∙ answers_left k.2 c.requires.2 c.compare-then-is_left.ensures ∙ sym c.is_left-then-is_left.ensures ∙ c.if-is_left-2.true in
    (between_inside lo hi (crossing l m) (true_is k.0) after earlier, record { is = k.1; small = k.2 })

pub returns-else-is_left-clause-meeting_between : goal.returns-else-is_left-clause-meeting_between
returns-else-is_left-clause-meeting_between c = λ l m h.
    let lo = fraction_of c.args.lo in
    let hi = fraction_of c.args.hi in
    let k = c.in_ok-p.ensures.crossing_by l m h in
    let after = ap (before lo) (sym k.1) ∙ answers_left c.requires.1 k.2 c.compare.ensures ∙ sym c.is_left.ensures in
    elim c.else-is_left.branch [
      | else-is_left-via-then-is_left+else-is_left-2 w ↦
          let earlier = ap (λ (x : Fraction). before x hi) (sym k.1) ∙ answers_left k.2 c.requires.2 w.compare-then-is_left.ensures ∙ sym w.is_left-then-is_left.ensures in
          between_right lo hi (crossing l m) (true_is k.0) (after ∙ w.if-is_left.true) (earlier ∙ w.if-is_left-2.false)
      | else-is_left-via-else-is_left w ↦ between_left lo hi (crossing l m) (true_is k.0) (after ∙ w.if-is_left.false)
    ]
