-- Both differences are empty exactly if the layers have the same points, and one is not exactly if some point lies in the one layer and not in the other.
use mathlib.Core.Path.{◌≡◌, refl, subst}
use mathlib.Core.List.{List, [], ◌∷◌}
use mathlib.Core.Logic.{inl, inr}
use Prim.Native.Nat.{ℕ}
use Rattle.lists.specs.Lists.{All}
use Rattle.geometry.specs.declared.Trapezoid.{Trapezoid}
use Rattle.geometry.specs.Points.{Point, IsPoint}
use Rattle.geometry.specs.Trapezoids.{LiesInLayer}
use Rattle.geometry.specs.Fitness.{FitFor}
use Rattle.geometry.proofs.Fitness.{fit_holds_point}
use Rattle.boolean.specs.Operations.{difference}
use Rattle.boolean.specs.Statements.{EqualityExact, DifferenceSome}
use Rattle.boolean.proofs.Layers.{in_or_out}
use Rattle.boolean.proofs.Kept.{difference_fit}
use Rattle.boolean.proofs.Difference.{difference_in, in_difference}

module _ (L : ℕ) where
  -- a layer of fit trapezoids that holds no point is empty
  pub no_points : (ts : List Trapezoid) → All (FitFor L) ts → ((P : Point) → IsPoint P → LiesInLayer P ts → ⊥) → ts ≡ []
  no_points [] h n = refl
  no_points (t ∷ ts) h n = let k = fit_holds_point L t h.0 in absurd (n k.0 k.1 (inl k.2))

  -- one that is not empty holds a point
  some_point : (ts : List Trapezoid) → All (FitFor L) ts → (ts ≡ [] → ⊥) → (P : Point) × IsPoint P × LiesInLayer P ts
  some_point [] h n = absurd (n refl)
  some_point (t ∷ ts) h n = let k = fit_holds_point L t h.0 in (k.0, k.1, inl k.2)

  -- a difference is empty exactly if each rational point of the first lies in the second
  pub empty_in : (A B : List Trapezoid) → All (FitFor L) A → All (FitFor L) B → difference A B ≡ [] → (P : Point) → IsPoint P → LiesInLayer P A → LiesInLayer P B
  empty_in A B hA hB e P hP h =
      elim (in_or_out P B) [ inl k ↦ k | inr n ↦ absurd (subst (LiesInLayer P) e (in_difference L P hP A B hA hB h n)) ]

  pub in_empty : (A B : List Trapezoid) → All (FitFor L) A → All (FitFor L) B → ((P : Point) → IsPoint P → LiesInLayer P A → LiesInLayer P B) → difference A B ≡ []
  in_empty A B hA hB f =
      no_points (difference A B) (difference_fit L A B hA hB) (λ P hP h. let k = difference_in L P hP A B hA hB h in k.1 (f P hP k.0))

pub equality_exact : EqualityExact
equality_exact L A B hA hB = (
  (λ h P hP. (empty_in L A B hA hB h.0 P hP, empty_in L B A hB hA h.1 P hP)),
  (λ f. (in_empty L A B hA hB (λ P hP. (f P hP).0), in_empty L B A hB hA (λ P hP. (f P hP).1))),
)

pub difference_some : DifferenceSome
difference_some L A B hA hB = (
  (λ n.
      let k = some_point L (difference A B) (difference_fit L A B hA hB) n in
      let d = difference_in L k.0 k.1 A B hA hB k.2 in
      record { point = k.0; real = k.1; inside = d.0; outside = d.1 }),
  (λ b e. subst (LiesInLayer b.point) e (in_difference L b.point b.real A B hA hB b.inside b.outside)),
)
