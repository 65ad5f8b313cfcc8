-- The common range of two fit trapezoids.
use mathlib.Core.Bool.{not}
use Prim.Native.Nat.{ℕ}
use lib.Dec.{T}
use mir.Facts.{yes_and}
use Rattle.lists.proofs.Tests.{cond_cases}
use Rattle.integer.specs.Fraction.{Fraction, Proper, before}
use Rattle.integer.proofs.Fraction.{at_most_refl, before→at_most, at_most_before_trans, before_at_most_trans}
use Rattle.geometry.specs.declared.Trapezoid.{Trapezoid}
use Rattle.geometry.specs.Positions.{crosses, position}
use Rattle.geometry.specs.Trapezoids.{based}
use Rattle.geometry.specs.Fitness.{FitFor}
use Rattle.geometry.specs.Ranges.{lefter, righter, common_left, common_right}
use Rattle.geometry.proofs.Fitness.{left_crosses, right_crosses, left_proper, right_proper}

pub fit_based : {L : ℕ} {t : Trapezoid} → FitFor L t → T (based t)
fit_based {L} {t} h = yes_and (crosses t.left.first t.left.second) (crosses t.right.first t.right.second) (left_crosses h) (right_crosses h)

-- ---- the righter and the lefter of two positions
module _ (p q : Fraction) where
  pub righter_first : T (not (before (righter p q) p))
  righter_first = cond_cases (λ (x : Fraction). T (not (before x p))) (before p q) q p (λ h. before→at_most p q h) (λ h. at_most_refl p)

  pub righter_second : T (not (before (righter p q) q))
  righter_second = cond_cases (λ (x : Fraction). T (not (before x q))) (before p q) q p (λ h. at_most_refl q) (λ h. h)

  pub lefter_first : T (not (before p (lefter p q)))
  lefter_first = cond_cases (λ (x : Fraction). T (not (before p x))) (before p q) p q (λ h. at_most_refl p) (λ h. h)

  pub lefter_second : T (not (before q (lefter p q)))
  lefter_second = cond_cases (λ (x : Fraction). T (not (before q x))) (before p q) p q (λ h. before→at_most p q h) (λ h. at_most_refl q)

-- ---- the common range
module _ {L : ℕ} {A B : Trapezoid} (ha : FitFor L A) (hb : FitFor L B) where
  pub common_left_proper : Proper (common_left A B)
  unfolding common_left
  common_left_proper = cond_cases Proper (before (position A.left) (position B.left)) (position B.left) (position A.left) (λ h. left_proper hb) (λ h. left_proper ha)

  pub common_right_proper : Proper (common_right A B)
  unfolding common_right
  common_right_proper = cond_cases Proper (before (position A.right) (position B.right)) (position A.right) (position B.right) (λ h. right_proper ha) (λ h. right_proper hb)

  module _ (x : Fraction) (hx : Proper x) where
    -- at or after its left end
    pub from_left : T (not (before x (position A.left))) → T (not (before x (position B.left))) → T (not (before x (common_left A B)))
    unfolding common_left
    from_left u v = cond_cases (λ (p : Fraction). T (not (before x p))) (before (position A.left) (position B.left)) (position B.left) (position A.left) (λ h. v) (λ h. u)

    -- after it
    pub after_left : T (before (position A.left) x) → T (before (position B.left) x) → T (before (common_left A B) x)
    unfolding common_left
    after_left u v = cond_cases (λ (p : Fraction). T (before p x)) (before (position A.left) (position B.left)) (position B.left) (position A.left) (λ h. v) (λ h. u)

    -- before its right end
    pub to_right : T (before x (position A.right)) → T (before x (position B.right)) → T (before x (common_right A B))
    unfolding common_right
    to_right u v = cond_cases (λ (p : Fraction). T (before x p)) (before (position A.right) (position B.right)) (position A.right) (position B.right) (λ h. u) (λ h. v)

    -- and back
    pub left_after : T (before (common_left A B) x) → T (before (position A.left) x) × T (before (position B.left) x)
    unfolding common_left
    left_after h = (
      at_most_before_trans (position A.left) (common_left A B) x (left_proper ha) common_left_proper hx (righter_first (position A.left) (position B.left)) h,
      at_most_before_trans (position B.left) (common_left A B) x (left_proper hb) common_left_proper hx (righter_second (position A.left) (position B.left)) h,
    )

    pub right_to : T (before x (common_right A B)) → T (before x (position A.right)) × T (before x (position B.right))
    unfolding common_right
    right_to h = (
      before_at_most_trans x (common_right A B) (position A.right) hx common_right_proper (right_proper ha) h (lefter_first (position A.right) (position B.right)),
      before_at_most_trans x (common_right A B) (position B.right) hx common_right_proper (right_proper hb) h (lefter_second (position A.right) (position B.right)),
    )
