-- Boxes that are apart: the trapezoids have nothing in common.
use mathlib.Core.Path.{subst}
use mathlib.Core.Bool.{Bool}
use mathlib.Core.Logic.{inl, inr}
use mir.Facts.{or_yes}
use lib.Dec.{T}
use lib.IntN.{ℤ, pos}
use lib.Signed.{lt_z, le_z, ◌≤ℤ◌, ◌<ℤ◌, le_z_yes, lt_z_yes, clash_ℤ}
use Rattle.integer.specs.Integer.{◌⊗◌}
use Rattle.integer.proofs.Ring.{ring, ◌⊟◌, ◌⊠◌, ◌≗◌}
use Rattle.integer.proofs.Order.{le_by, lt_by, le→nonneg, lt→positive, nonneg_mul, positive_mul, lt→le, le_trans, lt_le_trans}
use Rattle.geometry.specs.declared.Trapezoid.{Trapezoid}
use Rattle.geometry.specs.Points.{Point, IsPoint}
use Rattle.geometry.specs.Fitness.{FitFor}
use Rattle.geometry.proofs.Fitness.{fit_more}
use Rattle.boxes.specs.declared.Box.{Box}
use Rattle.boxes.specs.Boxes.{largest_limit, left_end, right_end, box_of, boxes_apart_by, boxes_apart, boxes_disjoint, Inside, Ends}
use Rattle.boxes.specs.Statements.{BoxesApart, BoxesDisjoint}
use Rattle.boxes.proofs.Magnitudes.{lowest_low, highest_high}
use Rattle.boxes.proofs.Holds.{InBox, closed_in_box, lies_inside}

-- the ends of a fit trapezoid's box
pub box_ends : {t : Trapezoid} → FitFor largest_limit t → Ends (box_of t)
unfolding box_of
box_ends {t} h = record { low = (lowest_low t.bottom h.grid.1.1.1.1.0 (left_end t) (right_end t)).less; high = (highest_high t.top h.grid.1.1.1.1.1.0 (left_end t) (right_end t)).more }

-- ---- the four ways of a test
four : (before : ℤ → ℤ → Bool) (e f : Box) {C : Type 0} → T (boxes_apart_by before e f)
    → (T (before f.right.v e.left.v) → C) → (T (before e.right.v f.left.v) → C) → (T (before f.top.v e.bottom.v) → C) → (T (before e.top.v f.bottom.v) → C) → C
unfolding boxes_apart_by
four before e f h a b c d =
    elim (or_yes (before f.right.v e.left.v) _ h) [
      | inl k ↦ a k
      | inr k ↦ elim (or_yes (before e.right.v f.left.v) _ k) [
        | inl m ↦ b m
        | inr m ↦ elim (or_yes (before f.top.v e.bottom.v) _ m) [ inl n ↦ c n | inr n ↦ d n ]
      ]
    ]

module _ (d : ℤ) (hd : pos 0 <ℤ d) where
  scaled_lt : {a b : ℤ} → a <ℤ b → a ⊗ d <ℤ b ⊗ d
  scaled_lt {a} {b} h = lt_by (ring 3 (λ a b d. (b ⊟ a) ⊠ d ≗ b ⊠ d ⊟ a ⊠ d) tt a b d) (positive_mul (lt→positive h) hd)

  scaled_le : {a b : ℤ} → a ≤ℤ b → a ⊗ d ≤ℤ b ⊗ d
  scaled_le {a} {b} h = le_by (ring 3 (λ a b d. (b ⊟ a) ⊠ d ≗ b ⊠ d ⊟ a ⊠ d) tt a b d) (nonneg_mul (le→nonneg h) (lt→le hd))

-- ---- no point lies in two boxes apart
module _ (P : Point) (hP : IsPoint P) where
  -- y is at most a·D and at least b·D, where a < b
  no_lt : {a b y : ℤ} → a <ℤ b → y ≤ℤ a ⊗ P.D → b ⊗ P.D ≤ℤ y → ⊥
  no_lt h k m = clash_ℤ (scaled_lt P.D hP h) (le_trans m k)

  no_le : {a b y : ℤ} → a ≤ℤ b → y <ℤ a ⊗ P.D → b ⊗ P.D ≤ℤ y → ⊥
  no_le h k m = clash_ℤ (lt_le_trans k (scaled_le P.D hP h)) m

  -- the one's top is below the other's bottom
  over : (e f : Box) → Ends e → Ends f → e.top.v <ℤ f.bottom.v → InBox P e → InBox P f → ⊥
  over e f he hf h k m =
      elim k.top [
        | inl a ↦ clash_ℤ hf.low (lt→le (subst (λ (z : ℤ). z <ℤ f.bottom.v) a h))
        | inr a ↦ elim m.bottom [ inl b ↦ clash_ℤ he.high (lt→le (subst (λ (z : ℤ). e.top.v <ℤ z) b h)) | inr b ↦ no_lt h a b ]
      ]

  at_or_over : (e f : Box) → Ends e → Ends f → e.top.v ≤ℤ f.bottom.v → Inside P e → Inside P f → ⊥
  at_or_over e f he hf h k m =
      elim k.top [
        | inl a ↦ clash_ℤ hf.low (subst (λ (z : ℤ). z ≤ℤ f.bottom.v) a h)
        | inr a ↦ elim m.bottom [ inl b ↦ clash_ℤ he.high (subst (λ (z : ℤ). e.top.v ≤ℤ z) b h) | inr b ↦ no_le h a b ]
      ]

  not_in_both : (e f : Box) → Ends e → Ends f → T (boxes_apart e f) → InBox P e → InBox P f → ⊥
  not_in_both e f he hf h k m =
      four lt_z e f h
      (λ t. no_lt (lt_z_yes t) m.right k.left)
      (λ t. no_lt (lt_z_yes t) k.right m.left)
      (λ t. over f e hf he (lt_z_yes t) m k)
      (λ t. over e f he hf (lt_z_yes t) k m)

  pub not_inside_both : (e f : Box) → Ends e → Ends f → T (boxes_disjoint e f) → Inside P e → Inside P f → ⊥
  not_inside_both e f he hf h k m =
      four le_z e f h
      (λ t. no_le (le_z_yes t) m.right k.left)
      (λ t. no_le (le_z_yes t) k.right m.left)
      (λ t. at_or_over f e hf he (le_z_yes t) m k)
      (λ t. at_or_over e f he hf (le_z_yes t) k m)

-- ---- the statements
pub boxes_apart_lem : BoxesApart
boxes_apart_lem L hL A B ha hb h P hP a b =
    not_in_both P hP (box_of A) (box_of B) (box_ends (fit_more L largest_limit A hL ha)) (box_ends (fit_more L largest_limit B hL hb)) h (closed_in_box ha P hP a) (closed_in_box hb P hP b)

pub boxes_disjoint_lem : BoxesDisjoint
boxes_disjoint_lem L hL A B ha hb h P hP a b =
    not_inside_both P hP (box_of A) (box_of B) (box_ends (fit_more L largest_limit A hL ha)) (box_ends (fit_more L largest_limit B hL hb)) h (lies_inside ha P hP a) (lies_inside hb P hP b)
