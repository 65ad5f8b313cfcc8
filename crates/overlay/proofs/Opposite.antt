-- Lines that cross change places. Where each bottom crosses the other's top inside the common range, A and B do not overlap before both crossings, nor after both.
use mathlib.Core.Path.{◌≡◌, sym, ◌∙◌, ap}
use mathlib.Core.Bool.{not}
use mathlib.Core.Logic.{inl, inr}
use Prim.Native.Nat.{ℕ}
use lib.Dec.{T, not_T}
use lib.IntN.{ℤ, pos}
use lib.Signed.{◌<ℤ◌, clash_ℤ}
use mir.Facts.{and_yes}
use Rattle.lists.proofs.Tests.{yes_or_no}
use Rattle.integer.specs.Integer.{◌⊕◌, ◌⊗◌}
use Rattle.integer.specs.Fraction.{Fraction, Proper, before, mediant}
use Rattle.integer.proofs.Ring.{ring, ◌⊞◌, ◌⊟◌, ◌⊠◌, con, ◌≗◌}
use Rattle.integer.proofs.Order.{lt→le, lt_or_le, antisymm, lt→positive, positive_mul, positive_is, positive_cancel, nonneg_mul, nonneg_is, nonneg_cancel}
use Rattle.integer.proofs.Linear.{neg_lt, neg_ge, neg_gt, neg_zero}
use Rattle.integer.proofs.Fraction.{cross, cross_turn, before→cross, at_most→cross, at_most_before_trans, before_at_most_trans, before_trans, mediant_proper, mediant_after, mediant-before}
use Rattle.geometry.specs.declared.Line.{Line}
use Rattle.geometry.specs.declared.Trapezoid.{Trapezoid}
use Rattle.geometry.specs.Lines.{det}
use Rattle.geometry.specs.Positions.{gap, meet, below}
use Rattle.geometry.specs.Fitness.{FitFor}
use Rattle.geometry.specs.Ranges.{common_left, common_right, crossing}
use Rattle.geometry.proofs.Identities.{gap_moves, gap_turn, det_turn}
use Rattle.geometry.proofs.Heights.{Lower, below→lower, height_trans}
use Rattle.geometry.proofs.Between.{ahead}
use Rattle.geometry.proofs.Meet.{crosses→det, meet_proper, meet-gap}
use Rattle.geometry.proofs.Fitness.{bottom_line, top_line}
use Rattle.geometry.proofs.Ranges.{common_left_proper, common_right_proper, left_after, right_to}
use Rattle.overlay.specs.Overlaps.{crosses_in_common, overlap_right}
use Rattle.overlay.proofs.Entering.{below_gap}
use Rattle.overlay.proofs.Ranges.{Crossing, from-crossing}

-- ---- a position between two and one, and between one and two
between_right : (r s q : Fraction) → Proper r → Proper s → Proper q → T (before r q) → T (before s q) → (x : Fraction) × Proper x × T (before r x) × T (before s x) × T (before x q)
between_right r s q hr hs hq u v =
    elim (yes_or_no (before r s)) [
      | inl h ↦ (mediant s q, mediant_proper s q hs hq, before_trans r s (mediant s q) hr hs (mediant_proper s q hs hq) h (mediant_after s q v), mediant_after s q v, mediant-before s q v)
      | inr h ↦ (mediant r q, mediant_proper r q hr hq, mediant_after r q u, at_most_before_trans s r (mediant r q) hs hr (mediant_proper r q hr hq) h (mediant_after r q u), mediant-before r q u)
    ]

between_left : (p r s : Fraction) → Proper p → Proper r → Proper s → T (before p r) → T (before p s) → (x : Fraction) × Proper x × T (before p x) × T (before x r) × T (before x s)
between_left p r s hp hr hs u v =
    elim (yes_or_no (before r s)) [
      | inl h ↦ (mediant p r, mediant_proper p r hp hr, mediant_after p r u, mediant-before p r u, before_trans (mediant p r) r s (mediant_proper p r hp hr) hr hs (mediant-before p r u) h)
      | inr h ↦ (mediant p s, mediant_proper p s hp hs, mediant_after p s v, before_at_most_trans (mediant p s) s r (mediant_proper p s hp hs) hs hr (mediant-before p s v) h, mediant-before p s v)
    ]

-- ---- l and m cross at r, and l is below m right of p
module _ (l m : Line) (r : Fraction) (hr : Proper r) (zero : gap l m r ≡ pos 0) (slopes : det l m ≡ pos 0 → ⊥) (p : Fraction) (h : T (below p l m)) where
  -- the gap by the distance from r
  from_root : (x : Fraction) → r.den ⊗ gap l m x ≡ det l m ⊗ cross x r
  from_root x = gap_moves l m r x ∙ ap (λ (z : ℤ). x.den ⊗ z ⊕ det l m ⊗ cross x r) zero ∙ ring 3 (λ d a b. d ⊠ con (pos 0) ⊞ a ⊠ b ≗ a ⊠ b) tt x.den (det l m) (cross x r)

  above_right : (x : Fraction) → pos 0 <ℤ det l m → T (before r x) → pos 0 <ℤ gap l m x
  above_right x d b = positive_cancel hr (positive_is (sym (from_root x)) (positive_mul d (ahead r x b)))

  above_left : (x : Fraction) → det l m <ℤ pos 0 → T (before x r) → pos 0 <ℤ gap l m x
  above_left x d b =
      let e = ring 2 (λ a b. (con (pos 0) ⊟ a) ⊠ (con (pos 0) ⊟ b) ≗ a ⊠ b) tt (det l m) (cross x r) in
      positive_cancel hr (positive_is (e ∙ sym (from_root x)) (positive_mul (lt→positive d) (lt→positive (before→cross x r b))))

  -- above m after r, if p is before r
  pub reversed_after : T (before p r) → (x : Fraction) → T (before r x) → gap m l x <ℤ pos 0
  reversed_after b x k = neg_lt (gap_turn l m x) (above_right x rises k)
    where
      rises : pos 0 <ℤ det l m
      rises =
          elim (lt_or_le (pos 0) (det l m)) [
            | inl j ↦ j
            | inr j ↦ elim (lt_or_le (det l m) (pos 0)) [ inl i ↦ clash_ℤ (above_left p i b) (below_gap p l m h) | inr i ↦ absurd (slopes (antisymm j i)) ]
          ]

  -- above m before r, if p is at r or after it
  pub reversed_before : T (not (before p r)) → (x : Fraction) → T (before x r) → gap m l x <ℤ pos 0
  reversed_before b x k = neg_lt (gap_turn l m x) (above_left x (falls (below→lower p l m h)) k)
    where
      falls : Lower (gap l m p) (det l m) → det l m <ℤ pos 0
      falls (inr j) = j.1
      falls (inl j) =
          elim (lt_or_le (det l m) (pos 0)) [
            | inl i ↦ i
            | inr i ↦ clash_ℤ j (nonneg_cancel hr (nonneg_is (sym (from_root p)) (nonneg_mul i (neg_ge (cross_turn r p) (at_most→cross r p b)))))
          ]

module _ {L : ℕ} {A B : Trapezoid} (ha : FitFor L A) (hb : FitFor L B)
    (c₁ : T (crosses_in_common A B (crossing A.bottom B.top))) (c₂ : T (crosses_in_common A B (crossing A.top B.bottom))) where
  abbrev r₁ : Fraction
  r₁ = meet A.bottom B.top

  abbrev r₂ : Fraction
  r₂ = meet A.top B.bottom

  w₁ : Crossing A B (crossing A.bottom B.top)
  w₁ = from-crossing A B (crossing A.bottom B.top) c₁

  w₂ : Crossing A B (crossing A.top B.bottom)
  w₂ = from-crossing A B (crossing A.top B.bottom) c₂

  h₁ : Proper (meet A.bottom B.top)
  h₁ = meet_proper A.bottom B.top w₁.cross

  h₂ : Proper (meet A.top B.bottom)
  h₂ = meet_proper A.top B.bottom w₂.cross

  -- strictly inside the common range the lines cannot go round: B's top below A's bottom, that below A's top, that below B's bottom
  no_round : (x : Fraction) → Proper x → T (before (common_left A B) x) → T (before x (common_right A B)) → gap B.top A.bottom x <ℤ pos 0 → gap A.top B.bottom x <ℤ pos 0 → ⊥
  no_round x hx u v g k =
      let left = left_after ha hb x hx u in
      let right = right_to ha hb x hx v in
      let a = ha.sides x hx left.0 right.0 in
      let b = hb.sides x hx left.1 right.1 in
      let i = height_trans B.top A.bottom A.top x (top_line hb) (bottom_line ha) (top_line ha) (lt→le g) (lt→le a) in
      let j = height_trans B.top A.top B.bottom x (top_line hb) (top_line ha) (bottom_line hb) i (lt→le k) in
      clash_ℤ (neg_gt (gap_turn B.bottom B.top x) b) j

  -- B's bottom with A's top, from A's top with B's bottom
  zero₂ : gap B.bottom A.top (meet A.top B.bottom) ≡ pos 0
  zero₂ = neg_zero (gap_turn A.top B.bottom r₂) (meet-gap A.top B.bottom)

  slopes₂ : det B.bottom A.top ≡ pos 0 → ⊥
  slopes₂ e = crosses→det A.top B.bottom w₂.cross (neg_zero (det_turn B.bottom A.top) e)

  module _ (p : Fraction) where
    both : T (overlap_right A B p) → T (below p A.bottom B.top) × T (below p B.bottom A.top)
    unfolding overlap_right
    both o = and_yes (below p A.bottom B.top) (below p B.bottom A.top) o

    -- before both crossings: look between them and the right end
    apart_before : T (before p (meet A.bottom B.top)) → T (before p (meet A.top B.bottom)) → T (not (overlap_right A B p))
    apart_before b₁ b₂ =
        let x = between_right r₁ r₂ (common_right A B) h₁ h₂ (common_right_proper ha hb) w₁.by w₂.by in
        not_T (overlap_right A B p) (λ o.
        no_round x.0 x.1 (before_trans (common_left A B) r₁ x.0 (common_left_proper ha hb) h₁ x.1 w₁.after x.2) x.4
        (reversed_after A.bottom B.top r₁ h₁ (meet-gap A.bottom B.top) (crosses→det A.bottom B.top w₁.cross) p (both o).0 b₁ x.0 x.2)
        (reversed_after B.bottom A.top r₂ h₂ zero₂ slopes₂ p (both o).1 b₂ x.0 x.3))

    -- so at the left end of the common range, or before it
    pub apart_left : T (not (before (common_left A B) p)) → Proper p → T (not (overlap_right A B p))
    apart_left b hp =
        apart_before
        (at_most_before_trans p (common_left A B) r₁ hp (common_left_proper ha hb) h₁ b w₁.after)
        (at_most_before_trans p (common_left A B) r₂ hp (common_left_proper ha hb) h₂ b w₂.after)

    -- after both: look between the left end and them
    pub apart_after : T (not (before p (meet A.bottom B.top))) → T (not (before p (meet A.top B.bottom))) → T (not (overlap_right A B p))
    apart_after b₁ b₂ =
        let x = between_left (common_left A B) r₁ r₂ (common_left_proper ha hb) h₁ h₂ w₁.after w₂.after in
        not_T (overlap_right A B p) (λ o.
        no_round x.0 x.1 x.2 (before_trans x.0 r₁ (common_right A B) x.1 h₁ (common_right_proper ha hb) x.3 w₁.by)
        (reversed_before A.bottom B.top r₁ h₁ (meet-gap A.bottom B.top) (crosses→det A.bottom B.top w₁.cross) p (both o).0 b₁ x.0 x.3)
        (reversed_before B.bottom A.top r₂ h₂ zero₂ slopes₂ p (both o).1 b₂ x.0 x.4))
