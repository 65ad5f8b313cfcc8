-- Groups that are the shapes of two layers: their marks and stages are those of the layers.
use mathlib.Core.Path.{◌≡◌, refl, sym, ◌∙◌, ap, ap₂, subst}
use mathlib.Core.Bool.{Bool, true, false, cond, ◌&&◌}
use mathlib.Core.List.{List, []}
use mathlib.Core.Logic.{◌⊎◌, inl, inr}
use Prim.Native.Nat.{ℕ, zero, suc, ◌<◌, ◌≤◌}
use native.Mathlib.Nat as NatL
use native.Mathlib.Omega.{arith}
use lib.Dec.{T}
use lib.ListN.{length}
use mir.Facts.{and_yes}
use Rattle.lists.specs.Lists.{All, each}
use Rattle.lists.proofs.Lists.{all_map}
use Rattle.lists.proofs.Tests.{true_is, false_is, yes_or_no}
use Rattle.lists.proofs.Each.{each_same, each_keep}
use Rattle.records.specs.Limits.{max_records}
use Rattle.geometry.specs.declared.Trapezoid.{Trapezoid}
use Rattle.geometry.specs.Fitness.{FitFor}
use Rattle.boolean.specs.Space.{Stage, enough, space, difference_stages}
use Rattle.connectivity.specs.Components.{own_numbers}
use Rattle.connectivity.proofs.Joining.{less_than, same_or_not}
use Rattle.extraction.specs.Shapes.{shape_of, is_some, shape_numbers}
use Rattle.extraction.specs.Extraction.{shape_encloses, enclosing_stages}
use Rattle.extraction.proofs.Shapes.{own_below, some_shape}
use Rattle.extraction.proofs.Enclosing.{one_test}
use Rattle.extraction.proofs.Counts.{enclosing_few}
use Rattle.enclosure_code.specs.Code.{some_encloses}
use Rattle.enclosing_code.specs.Code.{row_stages, family_stages, unmarked, last_mark, FamilyMarked}
use Rattle.marking_code.specs.Code.{shapes_enclose, MarkedAs, overlays_of_shapes}

-- ---- the last mark
module _ (F : ℕ → List Trapezoid) (B : List Trapezoid) where
  abbrev holds : ℕ → Bool
  holds i = is_some (F i) && some_encloses (F i) B

  next_yes : (m : ℕ) → T (holds m) → last_mark F (suc m) B ≡ m
  unfolding last_mark
  next_yes m t = let e : holds m ≡ true = true_is t in rw e

  next_no : (m : ℕ) → holds m ≡ false → last_mark F (suc m) B ≡ last_mark F m B
  unfolding last_mark
  next_no m e = rw e

  -- none, or a number below m
  last_range : (m : ℕ) → (last_mark F m B ≡ unmarked) ⊎ (last_mark F m B < m)
  unfolding last_mark
  last_range zero = inl refl
  last_range (suc m) =
      elim (yes_or_no (holds m)) [
        | inl t ↦ inr (let e = next_yes m t in omega arith)
        | inr t ↦ (let e = next_no m (false_is t) in elim (last_range m) [ inl k ↦ inl (e ∙ k) | inr k ↦ inr (omega arith) ])
      ]

  -- the shape with that number encloses
  last_is : (m i : ℕ) → m ≤ unmarked → i < m → last_mark F m B ≡ i → T (holds i)
  last_is zero i u l e = absurd (let z : ⊥ = omega arith in z)
  last_is (suc m) i u l e =
      elim (yes_or_no (holds m)) [
        | inl t ↦ subst (λ (k : ℕ). T (holds k)) (sym (next_yes m t) ∙ e) t
        | inr t ↦
            (let d : last_mark F m B ≡ i = sym (next_no m (false_is t)) ∙ e in
            elim (same_or_not i m) [
              | inl k ↦ absurd (elim (last_range m) [ inl r ↦ (let z : ⊥ = omega arith in z) | inr r ↦ (let z : ⊥ = omega arith in z) ])
              | inr k ↦ last_is m i (omega arith) (less_than i m l k) d
            ])
      ]

  -- and the only one that does is the last
  last_only : (m i : ℕ) → ((j : ℕ) → j < m → T (holds j) → j ≡ i) → i < m → T (holds i) → last_mark F m B ≡ i
  last_only zero i one l t = absurd (let z : ⊥ = omega arith in z)
  last_only (suc m) i one l t =
      elim (yes_or_no (holds m)) [
        | inl k ↦ next_yes m k ∙ one m (omega arith) k
        | inr k ↦
            (let e = false_is k in
            elim (same_or_not i m) [
              | inl s ↦ next_yes m (subst (λ (j : ℕ). T (holds j)) s t) ∙ sym s
              | inr s ↦ next_no m e ∙ last_only m i (λ j o. one j (omega arith)) (less_than i m l s) t
            ])
      ]

-- ---- families that are the shapes of the layers ts and us
module _ (ts us : List Trapezoid) (F G : ℕ → List Trapezoid) (f : (k : ℕ) → k < length ts → F k ≡ shape_of ts k) (g : (k : ℕ) → k < length us → G k ≡ shape_of us k) where
  pub family_stages_lem : family_stages F (length ts) G (length us) ≡ enclosing_stages ts us
  unfolding family_stages row_stages enclosing_stages shape_numbers
  family_stages_lem =
      each_keep (λ (i : ℕ). is_some (F i)) (λ (i : ℕ). row_stages G (F i) (length us)) (own_numbers (length ts))
      ∙ each_same (λ (i : ℕ). cond (is_some (F i)) (row_stages G (F i) (length us)) []) (λ (i : ℕ). cond (is_some (shape_of ts i)) (each (λ (j : ℕ). difference_stages 0 (shape_of us j) (shape_of ts i)) (shape_numbers us)) []) (own_numbers (length ts))
      (all_map (λ i l. ap (λ (A : List Trapezoid). cond (is_some A) (row_stages G A (length us)) []) (f i l) ∙ ap (λ (ms : List Stage). cond (is_some (shape_of ts i)) ms []) (row (shape_of ts i))) (own_numbers (length ts)) (own_below (length ts)))
      ∙ sym (each_keep (λ (i : ℕ). is_some (shape_of ts i)) (λ (i : ℕ). each (λ (j : ℕ). difference_stages 0 (shape_of us j) (shape_of ts i)) (shape_numbers us)) (own_numbers (length ts)))
    where
      row : (A : List Trapezoid) → row_stages G A (length us) ≡ each (λ (j : ℕ). difference_stages 0 (shape_of us j) A) (shape_numbers us)
      row A =
          each_keep (λ (j : ℕ). is_some (G j)) (λ (j : ℕ). difference_stages 0 (G j) A) (own_numbers (length us))
          ∙ each_same (λ (j : ℕ). cond (is_some (G j)) (difference_stages 0 (G j) A) []) (λ (j : ℕ). cond (is_some (shape_of us j)) (difference_stages 0 (shape_of us j) A) []) (own_numbers (length us))
          (all_map (λ j l. ap (λ (B : List Trapezoid). cond (is_some B) (difference_stages 0 B A) []) (g j l)) (own_numbers (length us)) (own_below (length us)))
          ∙ sym (each_keep (λ (j : ℕ). is_some (shape_of us j)) (λ (j : ℕ). difference_stages 0 (shape_of us j) A) (own_numbers (length us)))

  same_tests : (i j : ℕ) → i < length ts → j < length us → is_some (F i) && some_encloses (F i) (G j) ≡ shapes_enclose ts us i j
  same_tests i j a b = ap₂ (λ (A B : List Trapezoid). is_some A && some_encloses A B) (f i a) (g j b)

  -- each shape of us has one mark
  pub family_marked : length ts ≤ max_records → ((i j k : ℕ) → T (shapes_enclose ts us i k) → T (shapes_enclose ts us j k) → i ≡ j)
      → {d : List ℕ} → FamilyMarked F (length ts) G (length us) d → MarkedAs ts us d
  family_marked u one m =
      record {
        one_each = m.one_each;
        each = λ i j a b. (
          (λ e. subst T (same_tests i j a b) (last_is F (G j) (length ts) i u a (sym (m.each j b) ∙ e))),
          (λ t. m.each j b ∙ last_only F (G j) (length ts) i (λ k l o. one k i j (subst T (same_tests k j l b) o) t) a (subst T (sym (same_tests i j a b)) t)),
        );
      }

-- ---- fit layers of at most 512 trapezoids
-- no shape of us lies in two of ts
pub one_mark : (L : ℕ) (ts us : List Trapezoid) → All (FitFor L) ts → All (FitFor L) us → (i j k : ℕ) → T (shapes_enclose ts us i k) → T (shapes_enclose ts us j k) → i ≡ j
one_mark L ts us f g i j k s t =
    let a = and_yes (is_some (shape_of us k)) (shape_encloses (shape_of ts i) (shape_of us k)) (and_yes (is_some (shape_of ts i)) (some_encloses (shape_of ts i) (shape_of us k)) s).1 in
    let b = and_yes (is_some (shape_of us k)) (shape_encloses (shape_of ts j) (shape_of us k)) (and_yes (is_some (shape_of ts j)) (some_encloses (shape_of ts j) (shape_of us k)) t).1 in
    one_test L ts us f g i j k ((some_shape us k).0 a.0) a.1 b.1

-- the overlays of all differences
pub overlays_few : (room n : ℕ) (ts us : List Trapezoid) → room ≤ max_records → length ts ≤ max_records → length us ≤ max_records → space room (enclosing_stages ts us) ≡ enough n → n ≤ overlays_of_shapes
overlays_few room n ts us r f g e = omega (arith, enclosing_few room n ts us r e, NatL.mul-le-mul g f)
