use mathlib.Core.Path.{sym, ◌∙◌, ap, subst}
use native.Mathlib.Omega.{arith}
use lib.Dec.{not_T}
use lib.IntN.{ℤ, pos}
use lib.Signed.{◌<ℤ◌}
use Rattle.integer.specs.Integer.{⊝◌}
use Rattle.integer.proofs.Linear.{zarith, neg_gt}
use Rattle.integer.proofs.Tests.{lt_yes, lt_no}
use Rattle.integer.proofs.Order.{antisymm}
use Rattle.geometry.specs.Lines.{det}
use Rattle.geometry.specs.Positions.{crosses}
use Rattle.geometry.proofs.Meet.{crosses→det, det→crosses, meet_rising, meet_falling}
use Rattle.geometry_code.proofs.Branches.{small_position}
use Rattle.geometry_code.proofs.crossing_by.Goals as goal

pub returns-then-less : goal.returns-then-less
returns-then-less c =
    let p : pos 0 <ℤ c.args.k.det.v = lt_yes (pos 0) c.args.k.det.v (cc) in
    let small = small_position c.requires.numer_small c.requires.det_small p in
    record {
      crossing_by = (λ l m k.
          let h : pos 0 <ℤ det l m = subst (λ (z : ℤ). pos 0 <ℤ z) k.det p in
          (det→crosses l m (λ e. omega (zarith, e)), (λ j. record { num = k.numer j; den = k.det j }) ∙ sym (meet_rising l m h), small));
      small = small;
    }

pub returns-then-less-2 : goal.returns-then-less-2
returns-then-less-2 c =
    let p : c.args.k.det.v <ℤ pos 0 = lt_yes c.args.k.det.v (pos 0) (cc) in
    let n = c.neg.ensures in
    let d = c.neg-then-less-2.ensures in
    let small = small_position {p = record { num = c.neg.result; den = c.neg-then-less-2.result }} (omega (arith, n.magnitude, c.requires.numer_small)) (omega (arith, d.magnitude, c.requires.det_small)) (neg_gt d.v_value p) in
    record {
      crossing_by = (λ l m k.
          let h : det l m <ℤ pos 0 = subst (λ (z : ℤ). z <ℤ pos 0) k.det p in
          let num = n.v_value ∙ ap ⊝◌ k.numer in
          let den = d.v_value ∙ ap ⊝◌ k.det in
          (det→crosses l m (λ e. omega (zarith, e)), (λ j. record { num = num j; den = den j }) ∙ sym (meet_falling l m h), small));
      small = small;
    }

pub returns : goal.returns
returns c =
    record {
      crossing_by = (λ l m k.
          let a = lt_no (pos 0) (det l m) (cc) in
          let b = lt_no (det l m) (pos 0) (cc) in
          not_T (crosses l m) (λ t. crosses→det l m t (antisymm a b)));
      small = tt;
    }
