-- The five set operations.
use mathlib.Core.Bool.{Bool, not, ◌&&◌}
use mathlib.Core.List.{List}
use mathlib.Core.Logic.{inl, inr}
use Prim.Native.Nat.{ℕ}
use mir.Facts.{and_yes, yes_and, or_yes}
use Rattle.lists.specs.Lists.{All}
use Rattle.lists.proofs.Tests.{or_left, or_right, and_not_exact}
use Rattle.lists.proofs.Lists.{any_left, any_right, any_split}
use Rattle.geometry.specs.declared.Trapezoid.{Trapezoid}
use Rattle.geometry.specs.Points.{Point, IsPoint}
use Rattle.geometry.specs.Trapezoids.{LiesInLayer}
use Rattle.geometry.specs.Fitness.{FitFor}
use Rattle.boolean.specs.Operations.{union, intersect, a_minus_b, b_minus_a, symmetric_difference, difference}
use Rattle.boolean.specs.Statements.{IsYes, ResultExact, ResultDisjoint}
use Rattle.boolean.proofs.Layers.{Inside, in_or_out, disjoint_append}
use Rattle.boolean.proofs.Difference.{difference_in, in_difference, difference_disjoint}
use Rattle.boolean.proofs.Intersection.{intersection_in, in_intersection, intersection_disjoint}

-- ---- points
module _ (L : ℕ) (P : Point) (hP : IsPoint P) where
  difference_says : (A B : List Trapezoid) → All (FitFor L) A → All (FitFor L) B → (a b : Bool) → IsYes a (LiesInLayer P A) → IsYes b (LiesInLayer P B)
      → IsYes (a && not b) (LiesInLayer P (difference A B))
  difference_says A B hA hB a b ya yb = (
    (λ h. let k = (and_not_exact a b).0 h in in_difference L P hP A B hA hB (ya.0 k.0) (λ x. k.1 (yb.1 x))),
    (λ h. let k = difference_in L P hP A B hA hB h in (and_not_exact a b).1 (ya.1 k.0, (λ x. k.1 (yb.0 x)))),
  )

pub result_exact : ResultExact
result_exact L A B hA hB P hP union a b ya yb = (
  (λ h.
      elim (or_yes a b h) [
        | inl k ↦ any_left (Inside P) A (difference B A) (ya.0 k)
        | inr k ↦ elim (in_or_out P A) [
          | inl i ↦ any_left (Inside P) A (difference B A) i
          | inr n ↦ any_right (Inside P) A (difference B A) (in_difference L P hP B A hB hA (yb.0 k) n)
        ]
      ]),
  (λ h.
      elim (any_split (Inside P) A (difference B A) h) [ inl k ↦ or_left a b (ya.1 k) | inr k ↦ or_right a b (yb.1 (difference_in L P hP B A hB hA k).0) ]),
)
result_exact L A B hA hB P hP intersect a b ya yb = (
  (λ h. let k = and_yes a b h in in_intersection L P hP A B hA hB (ya.0 k.0) (yb.0 k.1)),
  (λ h. let k = intersection_in L P hP A B hA hB h in yes_and a b (ya.1 k.0) (yb.1 k.1)),
)
result_exact L A B hA hB P hP a_minus_b a b ya yb = difference_says L P hP A B hA hB a b ya yb
result_exact L A B hA hB P hP b_minus_a a b ya yb = difference_says L P hP B A hB hA b a yb ya
result_exact L A B hA hB P hP symmetric_difference a b ya yb =
    let i = difference_says L P hP A B hA hB a b ya yb in
    let j = difference_says L P hP B A hB hA b a yb ya in (
      (λ h.
          elim (or_yes (a && not b) (b && not a) h) [
            | inl k ↦ any_left (Inside P) (difference A B) (difference B A) (i.0 k)
            | inr k ↦ any_right (Inside P) (difference A B) (difference B A) (j.0 k)
          ]),
      (λ h.
          elim (any_split (Inside P) (difference A B) (difference B A) h) [
            | inl k ↦ or_left (a && not b) (b && not a) (i.1 k)
            | inr k ↦ or_right (a && not b) (b && not a) (j.1 k)
          ]),
    )

-- ---- disjoint
pub result_disjoint : ResultDisjoint
result_disjoint L A B hA hB dA dB union =
    disjoint_append A (difference B A) dA (difference_disjoint L B A hB hA dB) (λ P hP x y. (difference_in L P hP B A hB hA y).1 x)
result_disjoint L A B hA hB dA dB intersect = intersection_disjoint L A B hA hB dA dB
result_disjoint L A B hA hB dA dB a_minus_b = difference_disjoint L A B hA hB dA
result_disjoint L A B hA hB dA dB b_minus_a = difference_disjoint L B A hB hA dB
result_disjoint L A B hA hB dA dB symmetric_difference =
    disjoint_append (difference A B) (difference B A) (difference_disjoint L A B hA hB dA) (difference_disjoint L B A hB hA dB)
    (λ P hP x y. (difference_in L P hP B A hB hA y).1 (difference_in L P hP A B hA hB x).0)
