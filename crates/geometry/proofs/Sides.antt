-- Row 11: the heights at the two bases decide what holds at every position strictly between them.
use mathlib.Core.Path.{◌≡◌, refl, sym, ◌∙◌, ap, subst}
use mathlib.Core.Logic.{◌⊎◌, inl, inr, ◌↔◌}
use lib.IntN.{ℤ, pos}
use lib.Dec.{T}
use lib.Signed.{◌≤ℤ◌, ◌<ℤ◌, clash_ℤ}
use Rattle.std.specs.declared.cmp.Ordering.{Ordering}
use Rattle.std.specs.declared.cmp.Ordering.TheVariants.{Less, Equal, Greater}
use Rattle.integer.specs.Integer.{◌⊕◌, ◌⊗◌}
use Rattle.integer.specs.Compare.{order_of, HasOrder}
use Rattle.integer.specs.Fraction.{Fraction, Proper, before, mediant}
use Rattle.integer.proofs.Ring.{ring, ◌⊞◌, ◌⊠◌, minus, con, ◌≗◌}
use Rattle.integer.proofs.Order.{eq_over, lt→le, antisymm, lt_or_le, weighted_lt, weighted_lt'}
use Rattle.integer.proofs.Linear.{zarith, minus⁺, minus⁻, neg_le, neg_lt, neg_ge, neg_gt}
use Rattle.integer.proofs.Tests.{order_exact}
use Rattle.integer.proofs.Fraction.{cross, cross_turn, cross_chain, before→cross, cross→before, mediant_proper, mediant_after, mediant-before}
use Rattle.geometry.specs.declared.Line.{Line}
use Rattle.geometry.specs.Lines.{det}
use Rattle.geometry.specs.Positions.{gap, ratio}
use Rattle.geometry.specs.Points.{at}
use Rattle.geometry.specs.Fitness.{BelowBetween, apart_by, below_between}
use Rattle.geometry.proofs.Identities.{gap_moves, gap_turn, det_turn, ratio_zero, ratio_cross, gap-between}
use Rattle.geometry.proofs.Heights.{heights-gap}
use Rattle.geometry.proofs.Between.{ahead}

-- above at neither base, and below at one
pub record Meets (l m : Line) (p q : Fraction) : Type 0 where
  pub left : gap l m p ≤ℤ pos 0
  pub right : gap l m q ≤ℤ pos 0
  pub differ : (gap l m p <ℤ pos 0) ⊎ (gap l m q <ℤ pos 0)

module _ (l m : Line) (p q : Fraction) (hp : Proper p) (hq : Proper q) (h : T (before p q)) where
  there : Meets l m p q → BelowBetween p q l m
  there t x hx u v = go t.differ
    where
      go : (gap l m p <ℤ pos 0) ⊎ (gap l m q <ℤ pos 0) → gap l m x <ℤ pos 0
      go (inl k) = weighted_lt (gap-between l m p q x) (ahead p q h) (ahead x q v) (lt→le (ahead p x u)) k t.right
      go (inr k) = weighted_lt' (gap-between l m p q x) (ahead p q h) (lt→le (ahead x q v)) (ahead p x u) t.left k

  -- if the gap is below 0 at x and above 0 at y, it is 0 strictly between: on either side
  crossing_right : (x y : Fraction) → Proper x → Proper y → T (before x y) → gap l m x <ℤ pos 0 → pos 0 <ℤ gap l m y → (r : Fraction) × Proper r × T (before x r) × T (before r y) × (gap l m r ≡ pos 0)
  unfolding ratio
  crossing_right x y hx hy b gx gy = (ratio l m, up, cross→before x (ratio l m) (subst (λ (z : ℤ). z <ℤ pos 0) (sym (ratio_cross l m x)) gx), cross→before (ratio l m) y (neg_lt (cross_turn y (ratio l m)) (subst (λ (z : ℤ). pos 0 <ℤ z) (sym (ratio_cross l m y)) gy)), ratio_zero l m)
    where
      up : pos 0 <ℤ det l m
      up = elim (lt_or_le (pos 0) (det l m)) [ inl k ↦ k | inr k ↦ clash_ℤ gy (lt→le (weighted_lt (gap_moves l m x y ∙ ap (λ (z : ℤ). y.den ⊗ gap l m x ⊕ z) (ring 2 (λ a b. a ⊠ b ≗ b ⊠ a) tt (det l m) (cross y x))) hx hy (lt→le (ahead x y b)) gx k)) ]

  crossing_left : (x y : Fraction) → Proper x → Proper y → T (before x y) → pos 0 <ℤ gap l m x → gap l m y <ℤ pos 0 → (r : Fraction) × Proper r × T (before x r) × T (before r y) × (gap l m r ≡ pos 0)
  unfolding ratio
  crossing_left x y hx hy b gx gy = (ratio m l, neg_gt (det_turn l m) fall, cross→before x (ratio m l) (subst (λ (z : ℤ). z <ℤ pos 0) (sym (ratio_cross m l x)) (neg_lt (gap_turn l m x) gx)), cross→before (ratio m l) y (neg_lt (cross_turn y (ratio m l)) (subst (λ (z : ℤ). pos 0 <ℤ z) (sym (ratio_cross m l y)) (neg_gt (gap_turn l m y) gy))), zero)
    where
      zero : gap l m (ratio m l) ≡ pos 0
      zero = let e = ratio_zero m l in let t = gap_turn m l (ratio m l) in omega (zarith, minus⁺ (gap m l (ratio m l)), minus⁻ (gap m l (ratio m l)))

      fall : det l m <ℤ pos 0
      fall = elim (lt_or_le (det l m) (pos 0)) [ inl k ↦ k | inr k ↦ clash_ℤ gx (lt→le (weighted_lt (gap_moves l m y x ∙ ap (λ (z : ℤ). x.den ⊗ gap l m y ⊕ z) (ring 2 (λ a b. a ⊠ b ≗ minus b ⊠ minus a) tt (det l m) (cross x y))) hy hx (neg_ge {a = cross x y} refl (lt→le (before→cross x y b))) gy (neg_le {a = det l m} refl k))) ]

  back : BelowBetween p q l m → Meets l m p q
  back s = record { left = left; right = right; differ = differ }
    where
      x : Fraction
      x = mediant p q

      hx : Proper x
      hx = mediant_proper p q hp hq

      gx : gap l m x <ℤ pos 0
      gx = s x hx (mediant_after p q h) (mediant-before p q h)

      left : gap l m p ≤ℤ pos 0
      left = elim (lt_or_le (pos 0) (gap l m p)) [ inr k ↦ k | inl k ↦ (let r = crossing_left p x hp hx (mediant_after p q h) k gx in let g = s r.0 r.1 r.2 (cross→before r.0 q (weighted_lt (cross_chain r.0 x q) hx hq (lt→le r.1) (before→cross r.0 x r.3) (lt→le (before→cross x q (mediant-before p q h))))) in let e = r.4 in absurd (omega zarith)) ]

      right : gap l m q ≤ℤ pos 0
      right = elim (lt_or_le (pos 0) (gap l m q)) [ inr k ↦ k | inl k ↦ (let r = crossing_right x q hx hq (mediant-before p q h) gx k in let g = s r.0 r.1 (cross→before p r.0 (weighted_lt (cross_chain p x r.0) hx r.1 (lt→le hp) (before→cross p x (mediant_after p q h)) (lt→le (before→cross x r.0 r.2)))) r.3 in let e = r.4 in absurd (omega zarith)) ]

      differ : (gap l m p <ℤ pos 0) ⊎ (gap l m q <ℤ pos 0)
      differ = elim (lt_or_le (gap l m p) (pos 0)) [ inl k ↦ inl k | inr k ↦ elim (lt_or_le (gap l m q) (pos 0)) [ inl j ↦ inr j | inr j ↦ (let e : gap l m x ≡ pos 0 = eq_over (ahead p q h) (gap-between l m p q x ∙ ap (λ (z : ℤ). cross q x ⊗ z ⊕ cross x p ⊗ gap l m q) (antisymm left k) ∙ ap (λ (z : ℤ). cross q x ⊗ pos 0 ⊕ cross x p ⊗ z) (antisymm right j) ∙ ring 3 (λ a b c. a ⊠ con (pos 0) ⊞ b ⊠ con (pos 0) ≗ c ⊠ con (pos 0)) tt (cross q x) (cross x p) (cross q p)) in let g = gx in absurd (omega zarith)) ] ]

  pub between_exact : Meets l m p q ↔ BelowBetween p q l m
  between_exact = (there, back)

-- the test computes it
module _ (p q : Fraction) (l m : Line) where
  test→meets : T (below_between p q l m) → Meets l m p q
  unfolding below_between
  test→meets h = go (order_of (gap l m p) (pos 0)) (order_of (gap l m q) (pos 0)) refl refl (rw (heights-gap p l m, heights-gap q l m) at h)
    where
      is : (o : Ordering) (x : Fraction) → order_of (gap l m x) (pos 0) ≡ o → HasOrder o (gap l m x) (pos 0)
      is o x e = (order_exact o (gap l m x) (pos 0)).0 e

      go : (o u : Ordering) → order_of (gap l m p) (pos 0) ≡ o → order_of (gap l m q) (pos 0) ≡ u → T (apart_by o u) → Meets l m p q
      go Less Less e f t = record { left = lt→le (is Less p e); right = lt→le (is Less q f); differ = inl (is Less p e) }
      go Less Equal e f t = let z = is Equal q f in record { left = lt→le (is Less p e); right = omega (zarith, z); differ = inl (is Less p e) }
      go Less Greater e f t = absurd t
      go Equal Less e f t = let z = is Equal p e in record { left = omega (zarith, z); right = lt→le (is Less q f); differ = inr (is Less q f) }
      go Equal Equal e f t = absurd t
      go Equal Greater e f t = absurd t
      go Greater u e f t = absurd t

  meets→test : Meets l m p q → T (below_between p q l m)
  unfolding below_between
  meets→test h = rw (heights-gap p l m, heights-gap q l m) (go (order_of (gap l m p) (pos 0)) (order_of (gap l m q) (pos 0)) refl refl)
    where
      is : (o : Ordering) (x : Fraction) → order_of (gap l m x) (pos 0) ≡ o → HasOrder o (gap l m x) (pos 0)
      is o x e = (order_exact o (gap l m x) (pos 0)).0 e

      neither : gap l m p ≡ pos 0 → gap l m q ≡ pos 0 → ⊥
      neither a b = elim h.differ [ inl k ↦ omega (zarith, a) | inr k ↦ omega (zarith, b) ]

      go : (o u : Ordering) → order_of (gap l m p) (pos 0) ≡ o → order_of (gap l m q) (pos 0) ≡ u → T (apart_by o u)
      go Less Less e f = tt
      go Less Equal e f = tt
      go Less Greater e f = clash_ℤ (is Greater q f) h.right
      go Equal Less e f = tt
      go Equal Equal e f = absurd (neither (is Equal p e) (is Equal q f))
      go Equal Greater e f = clash_ℤ (is Greater q f) h.right
      go Greater u e f = clash_ℤ (is Greater p e) h.left

  pub sides_exact : Proper p → Proper q → T (before p q) → T (below_between p q l m) ↔ BelowBetween p q l m
  sides_exact hp hq h = ((λ t. (between_exact l m p q hp hq h).0 (test→meets t)), (λ s. meets→test ((between_exact l m p q hp hq h).1 s)))
