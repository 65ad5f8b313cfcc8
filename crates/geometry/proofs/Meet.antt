-- Where two lines cross: the position of a base.
use mathlib.Core.Path.{◌≡◌, ◌∙◌}
use mathlib.Core.Bool.{Bool, true, false, not, cond}
use mathlib.Core.Logic.{inl, inr}
use lib.IntN.{pos}
use lib.Dec.{T, T_not}
use lib.Signed.{lt_z, ◌≤ℤ◌, ◌<ℤ◌, lt_z_yes, lt_z_no}
use Rattle.lists.proofs.Tests.{cond_cases}
use Rattle.integer.specs.Fraction.{Fraction, Proper}
use Rattle.integer.specs.Integer.{⊝◌}
use Rattle.integer.proofs.Ring.{ring, ◌⊟◌, ◌⊠◌, minus, ◌≗◌}
use Rattle.integer.proofs.Order.{antisymm, lt_or_le, lt→le}
use Rattle.integer.proofs.Linear.{zarith, minus⁺, minus⁻, neg_gt, neg_zero}
use Rattle.integer.proofs.Fraction.{cross}
use Rattle.integer.proofs.Tests.{yes_lt, no_lt}
use Rattle.geometry.specs.declared.Line.{Line}
use Rattle.geometry.specs.Lines.{dx, offset, det, numer}
use Rattle.geometry.specs.Positions.{gap, crosses, ratio, meet}
use Rattle.geometry.proofs.Identities.{gap_turn, det_turn, ratio_zero, ratio_cross}

-- ---- the test of the determinant
pub crosses→det : (l m : Line) → T (crosses l m) → det l m ≡ pos 0 → ⊥
unfolding crosses
crosses→det l m h e = go (lt_z (det l m) (pos 0)) (λ t. lt_z_yes t) h
  where
    go : (s : Bool) → (T s → det l m <ℤ pos 0) → T (cond s true (lt_z (pos 0) (det l m))) → ⊥
    go true f k = let z = f tt in omega (zarith, e)
    go false f k = let z : pos 0 <ℤ det l m = lt_z_yes k in omega (zarith, e)

pub det→crosses : (l m : Line) → (det l m ≡ pos 0 → ⊥) → T (crosses l m)
unfolding crosses
det→crosses l m h = go (lt_z (det l m) (pos 0)) (λ t. lt_z_no t)
  where
    go : (s : Bool) → (T (not s) → pos 0 ≤ℤ det l m) → T (cond s true (lt_z (pos 0) (det l m)))
    go true f = tt
    go false f = elim (lt_or_le (pos 0) (det l m)) [ inl k ↦ k.lt | inr k ↦ absurd (h (antisymm k (f tt))) ]

pub not_crosses→det : (l m : Line) → T (not (crosses l m)) → det l m ≡ pos 0
not_crosses→det l m h =
    elim (lt_or_le (det l m) (pos 0)) [
      | inl k ↦ absurd (T_not (crosses l m) h (det→crosses l m (λ e. omega (zarith, e))))
      | inr k ↦ elim (lt_or_le (pos 0) (det l m)) [ inl j ↦ absurd (T_not (crosses l m) h (det→crosses l m (λ e. omega (zarith, e)))) | inr j ↦ antisymm j k ]
    ]

-- ---- the position
pub meet_cases : (P : Fraction → Type 0) (l m : Line) → (pos 0 <ℤ det l m → P (ratio l m)) → (det l m ≤ℤ pos 0 → P (ratio m l)) → P (meet l m)
unfolding meet
meet_cases P l m f g = cond_cases P (lt_z (pos 0) (det l m)) (ratio l m) (ratio m l) (λ h. f (lt_z_yes h)) (λ h. g (lt_z_no h))

pub meet_proper : (l m : Line) → T (crosses l m) → Proper (meet l m)
unfolding ratio
meet_proper l m h = meet_cases Proper l m (λ k. k) (λ k. neg_gt (det_turn l m) (elim (lt_or_le (det l m) (pos 0)) [ inl j ↦ j | inr j ↦ absurd (crosses→det l m h (antisymm k j)) ]))

-- a position is one only of lines that cross
pub proper_crosses : (l m : Line) → Proper (meet l m) → T (crosses l m)
unfolding ratio
proper_crosses l m h = det→crosses l m (λ e. meet_cases (λ (p : Fraction). Proper p → ⊥) l m (λ k r. omega (zarith, e)) (λ k r. omega (zarith, e, det_turn l m, minus⁺ (det l m), minus⁻ (det l m))) h)

-- the lines have equal heights there, and nowhere else
pub meet-gap : (l m : Line) → gap l m (meet l m) ≡ pos 0
meet-gap l m = meet_cases (λ (p : Fraction). gap l m p ≡ pos 0) l m (λ h. ratio_zero l m) (λ h. neg_zero (gap_turn m l (ratio m l)) (ratio_zero m l))

pub meet-only : (l m : Line) (x : Fraction) → gap l m x ≡ pos 0 → cross x (meet l m) ≡ pos 0
meet-only l m x e = meet_cases (λ (p : Fraction). cross x p ≡ pos 0) l m (λ k. ratio_cross l m x ∙ e) (λ k. ratio_cross m l x ∙ neg_zero (gap_turn l m x) e)

-- ---- by the determinant's sign, as a function finds it
pub meet_rising : (l m : Line) → pos 0 <ℤ det l m → meet l m ≡ record { num = numer l m; den = det l m }
unfolding meet ratio
meet_rising l m h = rw (yes_lt h)

pub meet_falling : (l m : Line) → det l m <ℤ pos 0 → meet l m ≡ record { num = ⊝ numer l m; den = ⊝ det l m }
unfolding meet ratio det numer
meet_falling l m h =
    let n : numer m l ≡ ⊝ numer l m = ring 4 (λ a c e g. e ⊠ c ⊟ a ⊠ g ≗ minus (a ⊠ g ⊟ e ⊠ c)) tt (dx l) (offset l) (dx m) (offset m) in
    let d = det_turn l m in
    rw (no_lt (lt→le h)) (λ j. record { num = n j; den = d j })
