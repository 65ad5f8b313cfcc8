-- The search over the later trapezoid, and for each over the earlier one.
use mathlib.Core.Path.{◌≡◌, refl, sym, ◌∙◌, ap, ap₂}
use mathlib.Core.Bool.{Bool, true, false, ◌||◌}
use mathlib.Core.List.{List, ◌∷◌, ◌++◌, []}
use Prim.Native.Nat.{ℕ, zero, suc, ◌+◌, ◌<◌, ◌≤◌}
use native.Mathlib.Nat.{add-zero}
use native.Mathlib.Omega.{arith}
use lib.Dec.{ltb, ltb→lt, nltb→le}
use lib.IntN.{ℤ}
use Rattle.lists.specs.Tests.{any}
use Rattle.lists.proofs.Tests.{is_true, is_false}
use Rattle.records.specs.Records.{record_at, records_from, count}
use Rattle.records.proofs.Records.{from_append}
use Rattle.geometry.specs.declared.Trapezoid.{Trapezoid}
use Rattle.geometry.specs.Limit.{coordinate_limit}
use Rattle.geometry.specs.Fitness.{FitFor}
use Rattle.geometry.specs.Trapezoids.{trapezoid_codec, layer_of}
use Rattle.geometry.proofs.Layers.{all_record}
use Rattle.overlay.specs.Overlaps.{overlaps, overlap_past, first_overlap}
use Rattle.overlay.proofs.Search.{past_yes, past_no, past_end}
use Rattle.boxes.specs.declared.Box.{Box}
use Rattle.boxes.specs.Boxes.{boxes_disjoint}
use Rattle.boxes.proofs.Rejecting.{no_overlap}
use Rattle.boxes_code.specs.Code.{box_at, BoxedLayer, Skipped}
use Rattle.remainder_code.specs.Code.{from}
use Rattle.remainder_code.proofs.Walking.{Walking, walk_start, walk_stop, walk_here, walk_turn}
use Rattle.std.specs.Prelude.{Result, Ok}
use Rattle.geometry.specs.declared.Refusal.{Refusal}
use Rattle.geometry.specs.Refusals.{refused_by}

-- number i of a layer, and those before it
abbrev pub at : List ℤ → ℕ → Trapezoid
at layer i = record_at trapezoid_codec layer i

abbrev earlier : List ℤ → ℕ → List Trapezoid
earlier layer i = records_from trapezoid_codec i layer 0

earlier_more : (layer : List ℤ) (i : ℕ) → earlier layer i ++ (at layer i ∷ []) ≡ earlier layer (i + 1)
unfolding records_from
earlier_more layer i = sym (from_append trapezoid_codec i 1 layer 0 ∙ (let e : 0 + i ≡ i = omega arith in ap (λ (k : ℕ). earlier layer i ++ (at layer k ∷ [])) e))

-- ---- some of n records from number i on pass a test
module _ (f : Trapezoid → Bool) (s : List ℤ) where
  none_pass : (n i : ℕ) → ((k : ℕ) → i ≤ k → k < i + n → f (at s k) ≡ false) → any f (records_from trapezoid_codec n s i) ≡ false
  unfolding records_from
  none_pass zero i h = refl
  none_pass (suc n) i h = let e = h i (omega arith) (omega arith) in rw e (none_pass n (i + 1) (λ k l m. h k (omega (arith, l)) (omega (arith, m))))

  or_true : (b : Bool) → b || true ≡ true
  or_true true = refl
  or_true false = refl

  one_passes : (n i k : ℕ) → i ≤ k → k < i + n → f (at s k) ≡ true → any f (records_from trapezoid_codec n s i) ≡ true
  unfolding records_from
  one_passes zero i k l m e = absurd (omega (arith, l, m))
  one_passes (suc n) i k l m e = go (ltb i k) refl (one_passes n (i + 1) k)
    where
      go : (b : Bool) → ltb i k ≡ b → (i + 1 ≤ k → k < i + 1 + n → f (at s k) ≡ true → any f (records_from trapezoid_codec n s (i + 1)) ≡ true) → f (at s i) || any f (records_from trapezoid_codec n s (i + 1)) ≡ true
      go true z later = let w = ltb→lt i k (is_true z) in let x = later (omega (arith, w)) (omega (arith, m)) e in rw x (or_true (f (at s i)))
      go false z later = let w = nltb→le i k (is_false z) in let x : i ≡ k = omega (arith, l, w) in let y : f (at s i) ≡ true = ap (λ (j : ℕ). f (at s j)) x ∙ e in rw y

-- ---- the later trapezoid: none of the first i overlaps one before it, and the rest decides
abbrev value : ℕ → List ℤ → ℕ → List Trapezoid → Result (Unit {0}) Refusal
value start layer i ts = overlap_past (earlier layer i) (start + i) ts

abbrev pub Searching : ℕ → List ℤ → ℕ → Type 0
Searching start layer i = Walking (value start layer) layer i

pub search_start : (start : ℕ) (layer : List ℤ) → Searching start layer 0
search_start start layer = walk_start (value start layer) layer

whole : (start : ℕ) (layer : List ℤ) → value start layer 0 (layer_of layer) ≡ first_overlap start (layer_of layer)
unfolding records_from
whole start layer = ap (λ (k : ℕ). overlap_past [] k (layer_of layer)) (add-zero start)

module _ (start : ℕ) {layer : List ℤ} {i : ℕ} (h : Searching start layer i) where
  pub search_stop : count trapezoid_codec layer ≤ i → (Ok tt) ≡ first_overlap start (layer_of layer)
  search_stop l = sym (walk_stop h l ∙ past_end (earlier layer i) (start + i)) ∙ whole start layer

  module _ (l : i < count trapezoid_codec layer) where
    -- number j before it overlaps it
    pub search_found : (j : ℕ) → j < i → overlaps (at layer i) (at layer j) ≡ true → refused_by 13 (start + i) ≡ first_overlap start (layer_of layer)
    search_found j m o =
        sym (walk_here h l (at layer i) refl ∙ past_yes (earlier layer i) (start + i) (at layer i) (from layer (i + 1)) (one_passes (overlaps (at layer i)) layer i 0 j (omega arith) (omega (arith, m)) o))
        ∙ whole start layer

    -- none before it does
    pub search_turn : ((k : ℕ) → k < i → overlaps (at layer i) (at layer k) ≡ false) → Searching start layer (i + 1)
    search_turn none =
        let e = none_pass (overlaps (at layer i)) layer i 0 (λ k m n. none k (omega (arith, n))) in
        let k : start + i + 1 ≡ start + (i + 1) = omega arith in
        walk_turn h l (at layer i) refl
        (past_no (earlier layer i) (start + i) (at layer i) (from layer (i + 1)) e ∙ ap₂ (λ (ts : List Trapezoid) (n : ℕ). overlap_past ts n (from layer (i + 1))) (earlier_more layer i) k)

-- ---- the earlier one: trapezoid i overlaps none of the first j
pub record NoneBefore (layer : List ℤ) (i j : ℕ) : Type 0 where
  pub upto : j ≤ i
  pub none : (k : ℕ) → k < j → overlaps (at layer i) (at layer k) ≡ false

pub none_start : (layer : List ℤ) (i : ℕ) → NoneBefore layer i 0
none_start layer i = record { upto = omega arith; none = λ k l. absurd (omega (arith, l)) }

up_to_lem : (P : ℕ → Type 0) (j r : ℕ) → ((k : ℕ) → k < j → P k) → ((k : ℕ) → j ≤ k → k < r → P k) → (k : ℕ) → k < r → P k
up_to_lem P j r f g k l = go (ltb k j) refl
  where
    go : (b : Bool) → ltb k j ≡ b → P k
    go true z = f k (ltb→lt k j (is_true z))
    go false z = g k (nltb→le k j (is_false z)) l

pub none_turn : {layer : List ℤ} {i j : ℕ} → NoneBefore layer i j → j < i → overlaps (at layer i) (at layer j) ≡ false → NoneBefore layer i (j + 1)
none_turn {layer} {i} {j} h l e =
    record {
      upto = omega (arith, l);
      none = up_to_lem (λ k. overlaps (at layer i) (at layer k) ≡ false) j (j + 1) h.none (λ k m n. let x : j ≡ k = omega (arith, m, n) in ap (λ (k : ℕ). overlaps (at layer i) (at layer k)) (sym x) ∙ e);
    }

-- boxes that are disjoint are passed over
module _ (s d : List ℤ) (h : BoxedLayer s d) (i : ℕ) (l : i < count trapezoid_codec s) where
  fit : (k : ℕ) → k < count trapezoid_codec s → FitFor coordinate_limit (at s k)
  fit k m = all_record (FitFor coordinate_limit) s k h.layer.fit m

  pub none_skip : (e : Box) → e ≡ box_at d i → {j r : ℕ} → NoneBefore s i j → Skipped boxes_disjoint e d j i r → NoneBefore s i r
  none_skip e b {j} {r} n p =
      record {
        upto = p.upto;
        none = up_to_lem (λ k. overlaps (at s i) (at s k) ≡ false) j r n.none (λ k u v.
            let m : k < count trapezoid_codec s = omega (arith, l, v, p.upto) in
            no_overlap coordinate_limit (omega arith) (at s i) (at s k) (fit i l) (fit k m)
            (is_true (sym (ap₂ boxes_disjoint (b ∙ h.boxes.each i l) (h.boxes.each k m)) ∙ p.passed k u v)));
      }
