-- Trapezoids of a layer's words, by their numbers.
use mathlib.Core.Path.{◌≡◌, sym, ◌∙◌, ap, ap₂, subst}
use mathlib.Core.Bool.{Bool, true, false}
use mathlib.Core.List.{List}
use Prim.Native.Nat.{ℕ, zero, suc, ◌+◌, ◌<◌}
use native.Mathlib.Omega.{arith}
use lib.Dec.{T}
use lib.ListN.{length}
use lib.IntN.{ℤ}
use Rattle.lists.specs.Lists.{All}
use Rattle.lists.specs.Tests.{test_at}
use Rattle.lists.proofs.Tests.{is_true}
use Rattle.records.specs.Records.{record_at, records_from, count}
use Rattle.records.proofs.Records.{length_from}
use Rattle.geometry.specs.declared.Trapezoid.{Trapezoid}
use Rattle.geometry.specs.Limit.{coordinate_limit}
use Rattle.geometry.specs.Fitness.{FitFor}
use Rattle.geometry.specs.Trapezoids.{trapezoid_codec, layer_of}
use Rattle.geometry.proofs.Layers.{all_record}
use Rattle.connectivity.specs.Touching.{touches}
use Rattle.connectivity.specs.Components.{own_numbers, joined_all, owners, touching_at, component_numbers, component_count}
use Rattle.boxes.specs.declared.Box.{Box}
use Rattle.boxes.specs.Boxes.{box_of, boxes_apart}
use Rattle.boxes.proofs.Rejecting.{no_touch}
use Rattle.boxes_code.specs.Code.{box_at, BoxesOf}

test_from : (f : Trapezoid → Bool) (n : ℕ) (s : List ℤ) (k i : ℕ) → i < n → test_at f (records_from trapezoid_codec n s k) i ≡ f (record_at trapezoid_codec s (k + i))
unfolding records_from
test_from f zero s k i l = absurd (omega arith)
test_from f (suc n) s k zero l = let e : k ≡ k + zero = omega arith in ap (λ (m : ℕ). f (record_at trapezoid_codec s m)) e
test_from f (suc n) s k (suc i) l = let e : k + 1 + i ≡ k + suc i = omega arith in test_from f n s (k + 1) i (omega arith) ∙ ap (λ (m : ℕ). f (record_at trapezoid_codec s m)) e

test_record : (f : Trapezoid → Bool) (s : List ℤ) (i : ℕ) → i < count trapezoid_codec s → test_at f (layer_of s) i ≡ f (record_at trapezoid_codec s i)
test_record f s i l = let e : 0 + i ≡ i = omega arith in test_from f (count trapezoid_codec s) s 0 i l ∙ ap (λ (m : ℕ). f (record_at trapezoid_codec s m)) e

pub touching_record : (s : List ℤ) (i j : ℕ) → i < count trapezoid_codec s → j < count trapezoid_codec s → touches (record_at trapezoid_codec s i) (record_at trapezoid_codec s j) ≡ touching_at (layer_of s) i j
unfolding touching_at
touching_record s i j l m = sym (test_record (λ (t : Trapezoid). test_at (touches t) (layer_of s) j) s i l ∙ test_record (touches (record_at trapezoid_codec s i)) s j m)

-- ---- boxes
-- where the boxes are apart the two do not touch
pub apart_record : (s d : List ℤ) (i j : ℕ) {e : Box} → All (FitFor coordinate_limit) (layer_of s) → i < count trapezoid_codec s → j < i
    → e ≡ box_of (record_at trapezoid_codec s i) → BoxesOf s d → boxes_apart e (box_at d j) ≡ true → false ≡ touching_at (layer_of s) i j
apart_record s d i j {e} fit l m b f g =
    let n : j < count trapezoid_codec s = omega (arith, l, m) in
    let first = all_record (FitFor coordinate_limit) s i fit l in
    let second = all_record (FitFor coordinate_limit) s j fit n in
    let apart = subst T (ap₂ boxes_apart b (f.each j n)) (is_true g) in
    sym (no_touch coordinate_limit (omega arith) (record_at trapezoid_codec s i) (record_at trapezoid_codec s j) first second apart) ∙ touching_record s i j l n

-- ---- the component numbers of a layer's words, as the function makes them
length-layer : (s : List ℤ) → length (layer_of s) ≡ count trapezoid_codec s
length-layer s = length_from trapezoid_codec (count trapezoid_codec s) s 0

module _ (s : List ℤ) (d₀ : List ℕ) {d₁ d₂ : List ℕ} (one : length d₀ ≡ count trapezoid_codec s) (own : d₁ ≡ own_numbers (length d₀)) (all : d₂ ≡ joined_all (touching_at (layer_of s)) (count trapezoid_codec s) d₁) where
  pub numbers_are : d₂ ≡ component_numbers (layer_of s)
  unfolding component_numbers
  numbers_are = all ∙ ap (joined_all (touching_at (layer_of s)) (count trapezoid_codec s)) (own ∙ ap own_numbers one) ∙ sym (ap (λ (n : ℕ). joined_all (touching_at (layer_of s)) n (own_numbers n)) (length-layer s))

  pub count_is : length d₂ ≡ count trapezoid_codec s → {r : ℕ} → r ≡ length (owners d₂ (length d₂)) → r ≡ component_count (layer_of s)
  unfolding component_count
  count_is l e = e ∙ ap (λ (n : ℕ). length (owners d₂ n)) (l ∙ sym (length-layer s)) ∙ ap (λ (d : List ℕ). length (owners d (length (layer_of s)))) numbers_are
