-- Intersections: their points, and that they are disjoint.
use mathlib.Core.List.{List, [], ◌∷◌}
use mathlib.Core.Logic.{inl, inr}
use Prim.Native.Nat.{ℕ}
use Rattle.lists.specs.Lists.{All}
use Rattle.lists.proofs.Lists.{any_left, any_right, any_split}
use Rattle.geometry.specs.declared.Trapezoid.{Trapezoid}
use Rattle.geometry.specs.Points.{Point, IsPoint}
use Rattle.geometry.specs.Trapezoids.{LiesInLayer, Disjoint}
use Rattle.geometry.specs.Fitness.{FitFor}
use Rattle.overlay.specs.Overlay.{overlay, tagged}
use Rattle.overlay.proofs.Tags.{tag_three}
use Rattle.overlay.proofs.Tagged.{tagged_disjoint}
use Rattle.boolean.specs.Operations.{common, intersection}
use Rattle.boolean.proofs.Layers.{Inside, disjoint_append, apart_away}

-- ---- points
module _ (L : ℕ) (P : Point) (hP : IsPoint P) where
  -- a point lies in the common part exactly if it lies in both
  common_in : (a : Trapezoid) (bs : List Trapezoid) → FitFor L a → All (FitFor L) bs → LiesInLayer P (common a bs) → Inside P a × LiesInLayer P bs
  unfolding common
  common_in a [] ha hb h = absurd h
  common_in a (b ∷ bs) ha hb h =
      elim (any_split (Inside P) (tagged 3 (overlay a b)) (common a bs) h) [
        | inl k ↦ (let j = (tag_three L a b ha hb.0 P hP).0 k in (j.0, inl j.1))
        | inr k ↦ (let j = common_in a bs ha hb.1 k in (j.0, inr j.1))
      ]

  in_common : (a : Trapezoid) (bs : List Trapezoid) → FitFor L a → All (FitFor L) bs → Inside P a → LiesInLayer P bs → LiesInLayer P (common a bs)
  unfolding common
  in_common a [] ha hb h k = absurd k
  in_common a (b ∷ bs) ha hb h (inl k) = any_left (Inside P) (tagged 3 (overlay a b)) (common a bs) ((tag_three L a b ha hb.0 P hP).1 (h, k))
  in_common a (b ∷ bs) ha hb h (inr k) = any_right (Inside P) (tagged 3 (overlay a b)) (common a bs) (in_common a bs ha hb.1 h k)

  pub intersection_in : (A B : List Trapezoid) → All (FitFor L) A → All (FitFor L) B → LiesInLayer P (intersection A B) → LiesInLayer P A × LiesInLayer P B
  unfolding intersection
  intersection_in [] B hA hB h = absurd h
  intersection_in (a ∷ A) B hA hB h =
      elim (any_split (Inside P) (common a B) (intersection A B) h) [
        | inl k ↦ (let j = common_in a B hA.0 hB k in (inl j.0, j.1))
        | inr k ↦ (let j = intersection_in A B hA.1 hB k in (inr j.0, j.1))
      ]

  pub in_intersection : (A B : List Trapezoid) → All (FitFor L) A → All (FitFor L) B → LiesInLayer P A → LiesInLayer P B → LiesInLayer P (intersection A B)
  unfolding intersection
  in_intersection [] B hA hB h k = absurd h
  in_intersection (a ∷ A) B hA hB (inl h) k = any_left (Inside P) (common a B) (intersection A B) (in_common a B hA.0 hB h k)
  in_intersection (a ∷ A) B hA hB (inr h) k = any_right (Inside P) (common a B) (intersection A B) (in_intersection A B hA.1 hB h k)

-- ---- disjoint
module _ (L : ℕ) where
  common_disjoint : (a : Trapezoid) (bs : List Trapezoid) → FitFor L a → All (FitFor L) bs → Disjoint bs → Disjoint (common a bs)
  unfolding common
  common_disjoint a [] ha hb d = tt
  common_disjoint a (b ∷ bs) ha hb d =
      disjoint_append (tagged 3 (overlay a b)) (common a bs) (tagged_disjoint ha hb.0 3) (common_disjoint a bs ha hb.1 d.1)
      (λ P hP x y. apart_away b bs d.0 P hP ((tag_three L a b ha hb.0 P hP).0 x).1 (common_in L P hP a bs ha hb.1 y).1)

  pub intersection_disjoint : (A B : List Trapezoid) → All (FitFor L) A → All (FitFor L) B → Disjoint A → Disjoint B → Disjoint (intersection A B)
  unfolding intersection
  intersection_disjoint [] B hA hB d e = tt
  intersection_disjoint (a ∷ A) B hA hB d e =
      disjoint_append (common a B) (intersection A B) (common_disjoint a B hA.0 hB e) (intersection_disjoint A B hA.1 hB d.1 e)
      (λ P hP x y. apart_away a A d.0 P hP (common_in L P hP a B hA.0 hB x).0 (intersection_in L P hP A B hA.1 hB y).0)
