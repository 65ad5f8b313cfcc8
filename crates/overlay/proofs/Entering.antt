-- Two lines right of a position: how far they stay in order, and where they come into order.
use mathlib.Core.Path.{◌≡◌, refl, ◌∙◌, ap}
use mathlib.Core.Bool.{not}
use mathlib.Core.Logic.{inl, inr}
use lib.Dec.{T, T_not}
use lib.IntN.{ℤ, pos}
use lib.Signed.{◌≤ℤ◌, ◌<ℤ◌, clash_ℤ}
use Rattle.lists.proofs.Tests.{yes_or_no}
use Rattle.integer.specs.Integer.{◌⊕◌, ◌⊗◌}
use Rattle.integer.specs.Fraction.{Fraction, Proper, before}
use Rattle.integer.proofs.Laws.{mul_comm}
use Rattle.integer.proofs.Order.{lt→le, lt_or_le, antisymm, weighted_le, weighted_lt'}
use Rattle.integer.proofs.Linear.{zarith, neg_le, neg_lt, neg_ge, neg_gt, neg_zero}
use Rattle.integer.proofs.Tests.{yes_lt, no_lt}
use Rattle.integer.proofs.Fraction.{cross, cross_turn, cross→before, at_most→cross, at_most_refl, before→at_most, before_at_most_trans, at_most_before_trans, before_trans}
use Rattle.geometry.specs.declared.Line.{Line}
use Rattle.geometry.specs.Lines.{det}
use Rattle.geometry.specs.Positions.{gap, crosses, ratio, meet, below}
use Rattle.geometry.specs.Orders.{Uncrossed}
use Rattle.geometry.specs.Fitness.{BelowBetween}
use Rattle.geometry.proofs.Identities.{gap_moves, gap_turn, det_turn, ratio_cross, gap-between}
use Rattle.geometry.proofs.Heights.{Lower, AtMost, below→lower, lower→below, not_below→at_most}
use Rattle.geometry.proofs.Between.{ahead, stays}
use Rattle.geometry.proofs.Meet.{crosses→det, det→crosses, not_crosses→det, meet_cases, meet_proper, meet-gap}
use Rattle.sweep.proofs.Between.{meet_level}

-- ---- the crossing does not depend on which line is named first
pub crosses_turn : (l m : Line) → T (crosses l m) → T (crosses m l)
crosses_turn l m h = det→crosses m l (λ e. crosses→det l m h (neg_zero (det_turn m l) e))

pub meet_turn : (l m : Line) → T (crosses l m) → meet l m ≡ meet m l
unfolding meet
meet_turn l m h =
    elim (lt_or_le (pos 0) (det l m)) [
      | inl k ↦ rw (yes_lt k, no_lt (lt→le (neg_lt (det_turn l m) k)))
      | inr k ↦ elim (lt_or_le (det l m) (pos 0)) [ inl j ↦ rw (no_lt k, yes_lt (neg_gt (det_turn l m) j)) | inr j ↦ absurd (crosses→det l m h (antisymm k j)) ]
    ]

-- ---- a line below another right of p is not above it at p
pub below_gap : (p : Fraction) (l m : Line) → T (below p l m) → gap l m p ≤ℤ pos 0
below_gap p l m h = go (below→lower p l m h)
  where
    go : Lower (gap l m p) (det l m) → gap l m p ≤ℤ pos 0
    go (inl k) = lt→le k
    go (inr k) = let z = k.0 in omega (zarith, z)

-- ---- lines in order right of p are strictly in order up to some position after p, which is q or before it
pub record Until (p q : Fraction) (l m : Line) : Type 0 where
  pub end : Fraction
  pub proper : Proper end
  pub after : T (before p end)
  pub by : T (not (before q end))
  pub between : BelowBetween p end l m

pub until : (p q : Fraction) (l m : Line) → Proper p → Proper q → T (before p q) → T (below p l m) → Until p q l m
until p q l m hp hq h b = elim (yes_or_no (crosses l m)) [ inl c ↦ crossing c | inr c ↦ to q hq h (at_most_refl q) (λ x hx u v e. not_crosses→det l m c) ]
  where
    to : (y : Fraction) → Proper y → T (before p y) → T (not (before q y)) → Uncrossed p y l m → Until p q l m
    to y hy py yq clear = record { end = y; proper = hy; after = py; by = yq; between = stays p y l m hp hy clear b }

    r : Fraction
    r = meet l m

    crossing : T (crosses l m) → Until p q l m
    crossing c =
        elim (yes_or_no (before p r)) [
          | inl u ↦ elim (yes_or_no (before r q)) [
            | inl v ↦ to r hr u (before→at_most r q v) (λ x hx px xr e. absurd (T_not (before x r) (meet_level l m x e).1 xr))
            | inr v ↦ to q hq h (at_most_refl q) (λ x hx px xq e. absurd (T_not (before r q) v (at_most_before_trans r x q hr hx hq (meet_level l m x e).1 xq)))
          ]
          | inr u ↦ to q hq h (at_most_refl q) (λ x hx px xq e. absurd (T_not (before p r) u (before_at_most_trans p x r hp hx hr px (meet_level l m x e).0)))
        ]
      where
        hr : Proper r
        hr = meet_proper l m c

-- ---- l is not below m right of p, and is at x, at p or after it: then it comes below m at a position r between
pub record Enters (p x : Fraction) (l m : Line) (r : Fraction) : Type 0 where
  pub after : T (before p r)
  pub by : T (before r x)
  pub below : T (below r l m)

module _ (p x : Fraction) (l m : Line) (hp : Proper p) (hx : Proper x) (h : T (not (before x p))) (n : T (not (below p l m))) (g : gap l m x <ℤ pos 0) where
  -- m is not at most l at p with no greater slope: it would be at most l at x
  rises : gap m l p ≤ℤ pos 0 → det m l ≤ℤ pos 0 → ⊥
  rises a d =
      clash_ℤ (neg_gt (gap_turn l m x) g)
      (weighted_le (gap_moves m l p x ∙ ap (λ (z : ℤ). x.den ⊗ gap m l p ⊕ z) (mul_comm (det m l) (cross x p))) hp (lt→le hx) (neg_ge (cross_turn p x) (at_most→cross p x h)) a d)

  -- so l falls against m, from above it at p
  falls : AtMost (gap m l p) (det m l) → (gap m l p <ℤ pos 0) × (det l m <ℤ pos 0)
  falls (inl k) = (k, elim (lt_or_le (det l m) (pos 0)) [ inl j ↦ j | inr j ↦ absurd (rises (lt→le k) (neg_le (det_turn l m) j)) ])
  falls (inr k) = absurd (rises (let z = k.0 in omega (zarith, z)) k.1)

  pub enters : T (crosses l m) × Enters p x l m (meet l m)
  enters =
      let f = falls (not_below→at_most p m l n) in
      let e : meet l m ≡ ratio m l = meet_cases (λ (r : Fraction). r ≡ ratio m l) l m (λ k. clash_ℤ k (lt→le f.1)) (λ k. refl) in (
        det→crosses l m (λ z. let k = f.1 in omega (zarith, z)),
        record {
          after = rw e (cross→before p (ratio m l) (rw ratio_cross f.0));
          by = rw e (cross→before (ratio m l) x (neg_lt (cross_turn x (ratio m l)) (rw ratio_cross (neg_gt (gap_turn l m x) g))));
          below = lower→below (meet l m) l m (inr (meet-gap l m, f.1));
        },
      )

  pub enters_turned : T (crosses m l) × Enters p x l m (meet m l)
  enters_turned = (crosses_turn l m enters.0, rw (meet_turn m l (crosses_turn l m enters.0)) enters.1)

-- ---- l is below m right of p, and at x: then it is right of each position between
pub persists : (p r x : Fraction) (l m : Line) → Proper p → Proper r → Proper x → T (below p l m) → gap l m x <ℤ pos 0 → T (before p r) → T (before r x) → T (below r l m)
persists p r x l m hp hr hx b g u v =
    lower→below r l m (inl (weighted_lt' (gap-between l m p x r) (ahead p x (before_trans p r x hp hr hx u v)) (lt→le (ahead r x v)) (ahead p r u) (below_gap p l m b) g))
