-- Boxes in a slice: what is written is read, and the rest stays.
use mathlib.Core.Path.{◌≡◌, refl, sym, ◌∙◌, ap, subst, ap₂}
use mathlib.Core.Bool.{Bool, true, false}
use lib.Dec.{ltb, ltb→lt, nltb→le}
use Rattle.lists.proofs.Tests.{is_true, is_false}
use mathlib.Core.List.{List}
use Prim.Native.Nat.{ℕ, ◌+◌, ◌*◌, ◌<◌, ◌≤◌}
use native.Mathlib.Numerals.{add-one, add-two, add-three}
use native.Mathlib.Omega.{arith}
use lib.ListN.{length, get_or, set}
use lib.Seq.{sets, length-sets}
use lib.IntN.{ℤ, pos}
use Rattle.lists.proofs.Sets.{sets_before, sets_at}
use Rattle.records.specs.Records.{record_at, count}
use Rattle.geometry.specs.Trapezoids.{trapezoid_codec}
use Rattle.boxes.specs.declared.Box.{Box}
use Rattle.boxes.specs.Boxes.{box_of}
use Rattle.boxes_code.specs.Code.{box_width, box_words, box_at, FirstBoxes, BoxesOf}

-- its four words set one by one
pub four_sets : (d : List ℤ) (at : ℕ) (e : Box) {d₀ d₁ d₂ d₃ : List ℤ} → d₀ ≡ set d at e.left.v → d₁ ≡ set d₀ (at + 1) e.right.v
    → d₂ ≡ set d₁ (at + 2) e.bottom.v → d₃ ≡ set d₂ (at + 3) e.top.v → d₃ ≡ sets d at (box_words e)
four_sets d at e e₀ e₁ e₂ e₃ =
    let put : ℤ → List ℤ → ℕ → List ℤ = λ w x n. set x n w in
    e₃ ∙ ap₂ (put e.top.v) (e₂ ∙ ap₂ (put e.bottom.v) (e₁ ∙ ap₂ (put e.right.v) e₀ (add-one at)) (add-two at)) (add-three at)

-- boxes with the same numbers
pub same_box : {e f : Box} → e.left.v ≡ f.left.v → e.right.v ≡ f.right.v → e.bottom.v ≡ f.bottom.v → e.top.v ≡ f.top.v → e ≡ f
same_box l r b t = λ j. record { left = record { v = l j }; right = record { v = r j }; bottom = record { v = b j }; top = record { v = t j } }

module _ (d : List ℤ) (i : ℕ) (e : Box) where
  pub box_written : box_width * i + box_width ≤ length d → box_at (sets d (box_width * i) (box_words e)) i ≡ e
  unfolding box_at
  box_written h =
      let z : box_width * i + 0 ≡ box_width * i = omega arith in
      same_box
      (ap (λ (n : ℕ). get_or (sets d (box_width * i) (box_words e)) n (pos 0)) (sym z) ∙ sets_at (box_words e) d (box_width * i) 0 h (omega arith))
      (sets_at (box_words e) d (box_width * i) 1 h (omega arith))
      (sets_at (box_words e) d (box_width * i) 2 h (omega arith))
      (sets_at (box_words e) d (box_width * i) 3 h (omega arith))

  pub box_kept : (k : ℕ) → k < i → box_at (sets d (box_width * i) (box_words e)) k ≡ box_at d k
  unfolding box_at
  box_kept k h =
      same_box
      (sets_before (box_words e) d (box_width * i) (box_width * k) (omega (arith, h)))
      (sets_before (box_words e) d (box_width * i) (box_width * k + 1) (omega (arith, h)))
      (sets_before (box_words e) d (box_width * i) (box_width * k + 2) (omega (arith, h)))
      (sets_before (box_words e) d (box_width * i) (box_width * k + 3) (omega (arith, h)))

-- ---- the loop: the first i boxes stand
pub record Filling (s d₀ d : List ℤ) (i : ℕ) : Type 0 where
  pub first : FirstBoxes i s d
  pub same : length d ≡ length d₀
  pub upto : i ≤ count trapezoid_codec s

pub fill_start : (s d : List ℤ) (i : ℕ) → FirstBoxes i s d → i ≤ count trapezoid_codec s → Filling s d d i
fill_start s d i f l = record { first = f; same = refl; upto = l }

pub fill_none : (s d : List ℤ) → box_width * count trapezoid_codec s ≤ length d → FirstBoxes 0 s d
fill_none s d h = record { room = h; each = λ i l. absurd (omega (arith, l)) }

module _ {s d₀ d : List ℤ} {i : ℕ} (f : Filling s d₀ d i) where
  pub fill_room : i < count trapezoid_codec s → box_width * i + box_width ≤ length d
  fill_room l = let r = f.first.room in omega (arith, l, r)

  pub fill_turn : i < count trapezoid_codec s → (e : Box) → e ≡ box_of (record_at trapezoid_codec s i)
      → (d' : List ℤ) → d' ≡ sets d (box_width * i) (box_words e) → Filling s d₀ d' (i + 1)
  fill_turn l e is d' w =
      let n : length d' ≡ length d = ap length w ∙ length-sets d (box_width * i) (box_words e) in
      record {
        first = record { room = omega (arith, n, f.first.room); each = λ k h. ap (λ (x : List ℤ). box_at x k) w ∙ each k h };
        same = n ∙ f.same;
        upto = omega (arith, l);
      }
    where
      last : (k : ℕ) → k ≡ i → box_at (sets d (box_width * i) (box_words e)) k ≡ box_of (record_at trapezoid_codec s k)
      last k z = subst (λ (m : ℕ). box_at (sets d (box_width * i) (box_words e)) m ≡ box_of (record_at trapezoid_codec s m)) (sym z) (box_written d i e (fill_room l) ∙ is)

      each : (k : ℕ) → k < i + 1 → box_at (sets d (box_width * i) (box_words e)) k ≡ box_of (record_at trapezoid_codec s k)
      each k h = go (ltb k i) refl
        where
          go : (t : Bool) → ltb k i ≡ t → box_at (sets d (box_width * i) (box_words e)) k ≡ box_of (record_at trapezoid_codec s k)
          go true z = let m = ltb→lt k i (is_true z) in box_kept d i e k m ∙ f.first.each k m
          go false z = let m = nltb→le k i (is_false z) in last k (omega (arith, h, m))

  pub fill_stop : count trapezoid_codec s ≤ i → BoxesOf s d
  fill_stop l = record { room = f.first.room; each = λ k h. f.first.each k (omega (arith, h, l)) }
