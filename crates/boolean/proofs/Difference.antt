-- Differences: their points, and that they are disjoint.
use mathlib.Core.List.{List, [], ◌∷◌}
use mathlib.Core.Logic.{inl, inr}
use Prim.Native.Nat.{ℕ}
use lib.Dec.{T_not, not_T}
use Rattle.lists.specs.Lists.{All}
use Rattle.lists.proofs.Lists.{any_left, any_right, any_split}
use Rattle.geometry.specs.declared.Trapezoid.{Trapezoid}
use Rattle.geometry.specs.Points.{Point, IsPoint}
use Rattle.geometry.specs.Trapezoids.{lies_in, LiesInLayer, Disjoint}
use Rattle.geometry.specs.Fitness.{FitFor}
use Rattle.overlay.specs.Overlay.{overlay, tagged}
use Rattle.overlay.proofs.Tags.{tag_one}
use Rattle.overlay.proofs.Tagged.{tagged_disjoint}
use Rattle.boolean.specs.Operations.{minus, minus_all, difference}
use Rattle.boolean.proofs.Layers.{Inside, disjoint_append, apart_away}
use Rattle.boolean.proofs.Kept.{minus_fit}

-- ---- points
module _ (L : ℕ) (P : Point) (hP : IsPoint P) where
  one_in : (r b : Trapezoid) → FitFor L r → FitFor L b → LiesInLayer P (tagged 1 (overlay r b)) → Inside P r × (Inside P b → ⊥)
  one_in r b hr hb h = let k = (tag_one L r b hr hb P hP).0 h in (k.0, T_not (lies_in P b) k.1)

  in_one : (r b : Trapezoid) → FitFor L r → FitFor L b → Inside P r → (Inside P b → ⊥) → LiesInLayer P (tagged 1 (overlay r b))
  in_one r b hr hb h n = (tag_one L r b hr hb P hP).1 (h, not_T (lies_in P b) n)

  minus_in : (rs : List Trapezoid) (b : Trapezoid) → All (FitFor L) rs → FitFor L b → LiesInLayer P (minus rs b) → LiesInLayer P rs × (Inside P b → ⊥)
  unfolding minus
  minus_in [] b hs hb h = absurd h
  minus_in (r ∷ rs) b hs hb h =
      elim (any_split (Inside P) (tagged 1 (overlay r b)) (minus rs b) h) [
        | inl k ↦ (let j = one_in r b hs.0 hb k in (inl j.0, j.1))
        | inr k ↦ (let j = minus_in rs b hs.1 hb k in (inr j.0, j.1))
      ]

  in_minus : (rs : List Trapezoid) (b : Trapezoid) → All (FitFor L) rs → FitFor L b → LiesInLayer P rs → (Inside P b → ⊥) → LiesInLayer P (minus rs b)
  unfolding minus
  in_minus [] b hs hb h n = absurd h
  in_minus (r ∷ rs) b hs hb (inl h) n = any_left (Inside P) (tagged 1 (overlay r b)) (minus rs b) (in_one r b hs.0 hb h n)
  in_minus (r ∷ rs) b hs hb (inr h) n = any_right (Inside P) (tagged 1 (overlay r b)) (minus rs b) (in_minus rs b hs.1 hb h n)

  -- a point lies in what is left exactly if it lay in what there was and lies in none of the others
  pub minus_all_in : (rs bs : List Trapezoid) → All (FitFor L) rs → All (FitFor L) bs → LiesInLayer P (minus_all rs bs) → LiesInLayer P rs × (LiesInLayer P bs → ⊥)
  unfolding minus_all
  minus_all_in rs [] hs hb h = (h, (λ k. k))
  minus_all_in rs (b ∷ bs) hs hb h =
      let j = minus_all_in (minus rs b) bs (minus_fit L rs b hs hb.0) hb.1 h in
      let i = minus_in rs b hs hb.0 j.0 in
      (i.0, (λ k. elim k [ inl a ↦ i.1 a | inr a ↦ j.1 a ]))

  pub in_minus_all : (rs bs : List Trapezoid) → All (FitFor L) rs → All (FitFor L) bs → LiesInLayer P rs → (LiesInLayer P bs → ⊥) → LiesInLayer P (minus_all rs bs)
  unfolding minus_all
  in_minus_all rs [] hs hb h n = h
  in_minus_all rs (b ∷ bs) hs hb h n = in_minus_all (minus rs b) bs (minus_fit L rs b hs hb.0) hb.1 (in_minus rs b hs hb.0 h (λ a. n (inl a))) (λ a. n (inr a))

  -- the same for differences
  pub difference_in : (A B : List Trapezoid) → All (FitFor L) A → All (FitFor L) B → LiesInLayer P (difference A B) → LiesInLayer P A × (LiesInLayer P B → ⊥)
  unfolding difference
  difference_in [] B hA hB h = absurd h
  difference_in (a ∷ A) B hA hB h =
      elim (any_split (Inside P) (minus_all (a ∷ []) B) (difference A B) h) [
        | inl k ↦ (let j = minus_all_in (a ∷ []) B (hA.0, tt) hB k in (any_left (Inside P) (a ∷ []) A j.0, j.1))
        | inr k ↦ (let j = difference_in A B hA.1 hB k in (inr j.0, j.1))
      ]

  pub in_difference : (A B : List Trapezoid) → All (FitFor L) A → All (FitFor L) B → LiesInLayer P A → (LiesInLayer P B → ⊥) → LiesInLayer P (difference A B)
  unfolding difference
  in_difference [] B hA hB h n = absurd h
  in_difference (a ∷ A) B hA hB (inl h) n = any_left (Inside P) (minus_all (a ∷ []) B) (difference A B) (in_minus_all (a ∷ []) B (hA.0, tt) hB (inl h) n)
  in_difference (a ∷ A) B hA hB (inr h) n = any_right (Inside P) (minus_all (a ∷ []) B) (difference A B) (in_difference A B hA.1 hB h n)

-- ---- disjoint
module _ (L : ℕ) where
  minus_disjoint : (rs : List Trapezoid) (b : Trapezoid) → All (FitFor L) rs → FitFor L b → Disjoint rs → Disjoint (minus rs b)
  unfolding minus
  minus_disjoint [] b hs hb d = tt
  minus_disjoint (r ∷ rs) b hs hb d =
      disjoint_append (tagged 1 (overlay r b)) (minus rs b) (tagged_disjoint hs.0 hb 1) (minus_disjoint rs b hs.1 hb d.1)
      (λ P hP x y. apart_away r rs d.0 P hP (one_in L P hP r b hs.0 hb x).0 (minus_in L P hP rs b hs.1 hb y).0)

  pub minus_all_disjoint : (rs bs : List Trapezoid) → All (FitFor L) rs → All (FitFor L) bs → Disjoint rs → Disjoint (minus_all rs bs)
  unfolding minus_all
  minus_all_disjoint rs [] hs hb d = d
  minus_all_disjoint rs (b ∷ bs) hs hb d = minus_all_disjoint (minus rs b) bs (minus_fit L rs b hs hb.0) hb.1 (minus_disjoint rs b hs hb.0 d)

  -- what is left of one trapezoid
  pub one_disjoint : (a : Trapezoid) (B : List Trapezoid) → FitFor L a → All (FitFor L) B → Disjoint (minus_all (a ∷ []) B)
  one_disjoint a B ha hB = minus_all_disjoint (a ∷ []) B (ha, tt) hB (tt, tt)

  pub one_within : (a : Trapezoid) (B : List Trapezoid) → FitFor L a → All (FitFor L) B → (P : Point) → IsPoint P → LiesInLayer P (minus_all (a ∷ []) B) → Inside P a
  one_within a B ha hB P hP h = elim (minus_all_in L P hP (a ∷ []) B (ha, tt) hB h).0 [ inl k ↦ k | inr k ↦ absurd k ]

  pub difference_disjoint : (A B : List Trapezoid) → All (FitFor L) A → All (FitFor L) B → Disjoint A → Disjoint (difference A B)
  unfolding difference
  difference_disjoint [] B hA hB d = tt
  difference_disjoint (a ∷ A) B hA hB d =
      disjoint_append (minus_all (a ∷ []) B) (difference A B) (one_disjoint a B hA.0 hB) (difference_disjoint A B hA.1 hB d.1)
      (λ P hP x y. apart_away a A d.0 P hP (one_within a B hA.0 hB P hP x) (difference_in L P hP A B hA.1 hB y).0)
