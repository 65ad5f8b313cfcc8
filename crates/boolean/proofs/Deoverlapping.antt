-- Deoverlapping keeps the points and gives a disjoint layer.
use mathlib.Core.List.{List, [], ◌∷◌, ◌++◌}
use mathlib.Core.Logic.{◌⊎◌, inl, inr}
use Prim.Native.Nat.{ℕ}
use Rattle.lists.specs.Lists.{All}
use Rattle.lists.proofs.Lists.{all_append, any_left, any_right, any_split}
use Rattle.geometry.specs.declared.Trapezoid.{Trapezoid}
use Rattle.geometry.specs.Points.{Point, IsPoint}
use Rattle.geometry.specs.Trapezoids.{LiesInLayer, Disjoint}
use Rattle.geometry.specs.Fitness.{FitFor}
use Rattle.boolean.specs.Operations.{minus_all, deoverlapped_from}
use Rattle.boolean.specs.Statements.{DeoverlappedExact, DeoverlappedDisjoint}
use Rattle.boolean.proofs.Layers.{Inside, in_or_out, disjoint_append}
use Rattle.boolean.proofs.Kept.{minus_all_fit}
use Rattle.boolean.proofs.Difference.{minus_all_in, in_minus_all, one_disjoint, one_within}

module _ (L : ℕ) where
  -- the result, with what is left of one more trapezoid
  more_fit : (done : List Trapezoid) (a : Trapezoid) → All (FitFor L) done → FitFor L a → All (FitFor L) (done ++ minus_all (a ∷ []) done)
  more_fit done a hd ha = all_append (FitFor L) done (minus_all (a ∷ []) done) hd (minus_all_fit L (a ∷ []) done (ha, tt) hd)

  more_disjoint : (done : List Trapezoid) (a : Trapezoid) → All (FitFor L) done → FitFor L a → Disjoint done → Disjoint (done ++ minus_all (a ∷ []) done)
  more_disjoint done a hd ha d =
      disjoint_append done (minus_all (a ∷ []) done) d (one_disjoint L a done ha hd) (λ P hP x y. (minus_all_in L P hP (a ∷ []) done (ha, tt) hd y).1 x)

  deoverlapped_from_disjoint : (done A : List Trapezoid) → All (FitFor L) done → All (FitFor L) A → Disjoint done → Disjoint (deoverlapped_from done A)
  unfolding deoverlapped_from
  deoverlapped_from_disjoint done [] hd hA d = d
  deoverlapped_from_disjoint done (a ∷ A) hd hA d =
      deoverlapped_from_disjoint (done ++ minus_all (a ∷ []) done) A (more_fit done a hd hA.0) hA.1 (more_disjoint done a hd hA.0 d)

  module _ (P : Point) (hP : IsPoint P) where
    more_in : (done : List Trapezoid) (a : Trapezoid) → All (FitFor L) done → FitFor L a → LiesInLayer P (done ++ minus_all (a ∷ []) done)
        → LiesInLayer P done ⊎ Inside P a
    more_in done a hd ha h =
        elim (any_split (Inside P) done (minus_all (a ∷ []) done) h) [ inl k ↦ inl k | inr k ↦ inr (one_within L a done ha hd P hP k) ]

    in_more : (done : List Trapezoid) (a : Trapezoid) → All (FitFor L) done → FitFor L a → LiesInLayer P done ⊎ Inside P a
        → LiesInLayer P (done ++ minus_all (a ∷ []) done)
    in_more done a hd ha (inl h) = any_left (Inside P) done (minus_all (a ∷ []) done) h
    in_more done a hd ha (inr h) =
        elim (in_or_out P done) [
          | inl k ↦ any_left (Inside P) done (minus_all (a ∷ []) done) k
          | inr n ↦ any_right (Inside P) done (minus_all (a ∷ []) done) (in_minus_all L P hP (a ∷ []) done (ha, tt) hd (inl h) n)
        ]

    deoverlapped_from_in : (done A : List Trapezoid) → All (FitFor L) done → All (FitFor L) A → LiesInLayer P (deoverlapped_from done A)
        → LiesInLayer P done ⊎ LiesInLayer P A
    unfolding deoverlapped_from
    deoverlapped_from_in done [] hd hA h = inl h
    deoverlapped_from_in done (a ∷ A) hd hA h =
        elim (deoverlapped_from_in (done ++ minus_all (a ∷ []) done) A (more_fit done a hd hA.0) hA.1 h) [
          | inl k ↦ elim (more_in done a hd hA.0 k) [ inl i ↦ inl i | inr i ↦ inr (inl i) ]
          | inr k ↦ inr (inr k)
        ]

    in_deoverlapped_from : (done A : List Trapezoid) → All (FitFor L) done → All (FitFor L) A → LiesInLayer P done ⊎ LiesInLayer P A
        → LiesInLayer P (deoverlapped_from done A)
    unfolding deoverlapped_from
    in_deoverlapped_from done [] hd hA h = elim h [ inl k ↦ k | inr k ↦ absurd k ]
    in_deoverlapped_from done (a ∷ A) hd hA h =
        in_deoverlapped_from (done ++ minus_all (a ∷ []) done) A (more_fit done a hd hA.0) hA.1
        (elim h [
          | inl k ↦ inl (in_more done a hd hA.0 (inl k))
          | inr k ↦ elim k [ inl i ↦ inl (in_more done a hd hA.0 (inr i)) | inr i ↦ inr i ]
        ])

pub deoverlapped_exact : DeoverlappedExact
deoverlapped_exact L A hA P hP = (
  (λ h. elim (deoverlapped_from_in L P hP [] A tt hA h) [ inl k ↦ absurd k | inr k ↦ k ]),
  (λ h. in_deoverlapped_from L P hP [] A tt hA (inr h)),
)

pub deoverlapped_disjoint : DeoverlappedDisjoint
deoverlapped_disjoint L A hA = deoverlapped_from_disjoint L [] A tt hA tt
