-- What holds of two lines at every position from p to q, from what holds at p, or at p and q.
use mathlib.Core.Path.{◌≡◌, sym, ◌∙◌, ap, subst}
use mathlib.Core.Bool.{not}
use mathlib.Core.Logic.{inl, inr}
use lib.IntN.{ℤ, pos}
use lib.Dec.{T, not_T}
use lib.Signed.{◌≤ℤ◌, ◌<ℤ◌}
use Rattle.lists.proofs.Tests.{yes_or_no}
use Rattle.integer.specs.Integer.{◌⊕◌, ◌⊗◌}
use Rattle.integer.specs.Fraction.{Fraction, Proper, before, mediant}
use Rattle.integer.proofs.Ring.{ring, ◌⊠◌, ◌≗◌}
use Rattle.integer.proofs.Order.{lt→le, lt_or_le, weighted_le, weighted_lt, weighted_lt'}
use Rattle.integer.proofs.Linear.{zarith, minus⁺, minus⁻, neg_le, neg_lt, neg_ge, neg_gt, neg_zero}
use Rattle.integer.proofs.Fraction.{cross, cross_turn, before→cross, cross→before, at_most→cross, cross→at_most, before_at_most_trans, at_most_before_trans, mediant_proper, mediant_after, mediant-before}
use Rattle.geometry.specs.declared.Line.{Line}
use Rattle.geometry.specs.Lines.{det}
use Rattle.geometry.specs.Positions.{gap, ratio, below}
use Rattle.geometry.specs.Orders.{Uncrossed}
use Rattle.geometry.proofs.Identities.{gap_moves, gap_turn, det_turn, ratio_zero, ratio_cross}
use Rattle.geometry.proofs.Heights.{Lower, below→lower, coincide, coincide_everywhere}

pub uncrossed_turn : (p q : Fraction) (l m : Line) → Uncrossed p q l m → Uncrossed p q m l
uncrossed_turn p q l m c x hx u v e =
    let g : gap l m x ≡ pos 0 = neg_zero (gap_turn m l x) e in
    neg_zero (det_turn l m) (c x hx u v g)

moves : (l m : Line) (p x : Fraction) → p.den ⊗ gap l m x ≡ x.den ⊗ gap l m p ⊕ cross x p ⊗ det l m
moves l m p x = gap_moves l m p x ∙ ap (λ (z : ℤ). x.den ⊗ gap l m p ⊕ z) (ring 2 (λ a b. a ⊠ b ≗ b ⊠ a) tt (det l m) (cross x p))

pub ahead : (p q : Fraction) → T (before p q) → pos 0 <ℤ cross q p
ahead p q h = neg_gt (cross_turn p q) (before→cross p q h)

-- where the lines meet right of p, if the gap is negative at p and positive at x
ratio-between : (l m : Line) (p x : Fraction) → gap l m p <ℤ pos 0 → pos 0 ≤ℤ gap l m x → T (before p (ratio l m)) × T (not (before x (ratio l m)))
ratio-between l m p x hp hx = (
  cross→before p (ratio l m) (subst (λ (z : ℤ). z <ℤ pos 0) (sym (ratio_cross l m p)) hp),
  cross→at_most (ratio l m) x (neg_le (cross_turn x (ratio l m)) (subst (λ (z : ℤ). pos 0 ≤ℤ z) (sym (ratio_cross l m x)) hx)),
)

module _ (p q : Fraction) (l m : Line) (hp : Proper p) (hq : Proper q) (clear : Uncrossed p q l m) where
  -- in order right of p: strictly in order inside
  pub stays : T (below p l m) → (x : Fraction) → Proper x → T (before p x) → T (before x q) → gap l m x <ℤ pos 0
  unfolding ratio
  stays h x hx u v = elim (lt_or_le (pos 0) (det l m)) [ inr s ↦ falls s (below→lower p l m h) | inl s ↦ rises s (below→lower p l m h) ]
    where
      falls : det l m ≤ℤ pos 0 → Lower (gap l m p) (det l m) → gap l m x <ℤ pos 0
      falls s (inl b) = weighted_lt (moves l m p x) hp hx (lt→le (ahead p x u)) b s
      falls s (inr b) = weighted_lt' (moves l m p x) hp (lt→le hx) (ahead p x u) (omega (zarith, b.0)) b.1

      rises : pos 0 <ℤ det l m → Lower (gap l m p) (det l m) → gap l m x <ℤ pos 0
      rises s (inr b) = let c = b.1 in absurd (omega zarith)
      rises s (inl b) =
          elim (lt_or_le (gap l m x) (pos 0)) [
            | inl k ↦ k
            | inr k ↦ (let r = ratio-between l m p x b k in let z = clear (ratio l m) s r.0 (at_most_before_trans (ratio l m) x q s hx hq r.1 v) (ratio_zero l m) in absurd (omega (zarith, z)))
          ]

  -- and weakly in order from p to q, the ends included, also where they coincide
  pub stays_closed : T (not (below p m l)) → (x : Fraction) → Proper x → T (not (before x p)) → T (not (before q x)) → gap l m x ≤ℤ pos 0
  unfolding ratio
  stays_closed h x hx u v = elim (yes_or_no (below p l m)) [ inl b ↦ ordered (below→lower p l m b) | inr b ↦ (let c = coincide p l m b h in let z = coincide_everywhere p x l m hp c.0 c.1 in omega (zarith, z)) ]
    where
      from : pos 0 ≤ℤ cross x p
      from = neg_ge (cross_turn p x) (at_most→cross p x u)

      ordered : Lower (gap l m p) (det l m) → gap l m x ≤ℤ pos 0
      ordered (inr b) = weighted_le (moves l m p x) hp (lt→le hx) from (omega (zarith, b.0)) (lt→le b.1)
      ordered (inl b) =
          elim (lt_or_le (pos 0) (det l m)) [
            | inr s ↦ weighted_le (moves l m p x) hp (lt→le hx) from (lt→le b) s
            | inl s ↦ elim (lt_or_le (pos 0) (gap l m x)) [ inr k ↦ k | inl k ↦ (let z = clear (ratio l m) s (ratio-between l m p x b (lt→le k)).0 (earlier s k) (ratio_zero l m) in absurd (omega (zarith, z))) ]
          ]
        where
          earlier : pos 0 <ℤ det l m → pos 0 <ℤ gap l m x → T (before (ratio l m) q)
          earlier s k = before_at_most_trans (ratio l m) x q s hx hq (cross→before (ratio l m) x (neg_lt (cross_turn x (ratio l m)) (subst (λ (z : ℤ). pos 0 <ℤ z) (sym (ratio_cross l m x)) k))) v

-- lines in order strictly between p and q are in order right of p
pub order_from : (p q : Fraction) (l m : Line) → Proper p → Proper q → T (before p q) → ((x : Fraction) → Proper x → T (before p x) → T (before x q) → gap l m x <ℤ pos 0) → T (not (below p m l))
order_from p q l m hp hq h apart =
    not_T (below p m l) (λ k.
    let x = mediant p q in
    let g = stays p q m l hp hq clear k x (mediant_proper p q hp hq) (mediant_after p q h) (mediant-before p q h) in
    let f = apart x (mediant_proper p q hp hq) (mediant_after p q h) (mediant-before p q h) in
    omega (zarith, gap_turn l m x, minus⁺ (gap l m x), minus⁻ (gap l m x)))
  where
    clear : Uncrossed p q m l
    clear x hx u v e = let f = apart x hx u v in absurd (omega (zarith, e, gap_turn l m x, minus⁺ (gap l m x), minus⁻ (gap l m x)))
