-- A part of a layer's words, from one trapezoid to before another, and the boxes of that part.
use mathlib.Core.Path.{◌≡◌, refl, sym, ◌∙◌, ap, subst}
use mathlib.Core.List.{List, [], ◌∷◌, ◌++◌}
use Prim.Native.Nat.{ℕ, zero, suc, ◌+◌, ◌*◌, ◌-◌, ◌/◌, ◌<◌, ◌≤◌}
use native.Mathlib.Nat.{mul-div_cancel_left}
use native.Mathlib.Omega.{arith}
use lib.ListN.{length, take, drop, get_or, length-drop}
use lib.Seq.{length-take-le, take-take, drop-drop, take_at, drop_at, get_or-take, get_or-drop}
use lib.IntN.{ℤ, pos}
use Rattle.lists.proofs.Lists.{all_take, all_drop}
use Rattle.lists.specs.Lists.{All}
use Rattle.records.specs.Limits.{memory_width}
use Rattle.records.specs.Records.{record_at, records_from, count}
use Rattle.records.proofs.Records.{length_from, from_append}
use Rattle.geometry.specs.declared.Trapezoid.{Trapezoid}
use Rattle.geometry.specs.Limit.{coordinate_limit}
use Rattle.geometry.specs.Fitness.{FitFor}
use Rattle.geometry.specs.Trapezoids.{trapezoid_codec, layer_of}
use Rattle.boxes.specs.Boxes.{int, box_of}
use Rattle.boxes_code.specs.Code.{box_width, box_at, BoxedLayer}
use Rattle.shapes_code.specs.Code.{trapezoids_between}

-- the words of trapezoids number a to before e, and their boxes
abbrev pub words_between : ℕ → ℕ → List ℤ → List ℤ
words_between a e s = take (memory_width * e - memory_width * a) (drop (memory_width * a) s)

abbrev pub boxes_between : ℕ → ℕ → List ℤ → List ℤ
boxes_between a e d = take (box_width * e - box_width * a) (drop (box_width * a) d)

-- w elements from number i on, of the first m
take_within : {A : Type 0} (w i m : ℕ) (l : List A) → i + w ≤ m → take w (drop i (take m l)) ≡ take w (drop i l)
take_within w zero m l h = take-take w m l (omega (arith, h))
take_within w (suc i) zero l h = absurd (omega (arith, h))
take_within w (suc i) (suc m) [] h = refl
take_within w (suc i) (suc m) (x ∷ l) h = take_within w i m l (omega (arith, h))

module _ (s : List ℤ) (a e : ℕ) (l : a ≤ e) (k : e ≤ count trapezoid_codec s) where
  words_length : length (words_between a e s) ≡ memory_width * (e - a)
  words_length =
      let m : memory_width * e - memory_width * a ≡ memory_width * (e - a) = omega (arith, l) in
      length-take-le (memory_width * e - memory_width * a) (drop (memory_width * a) s) (simp length-drop (omega (arith, l, k))) ∙ m

  pub part_count : count trapezoid_codec (words_between a e s) ≡ e - a
  part_count = ap (λ (n : ℕ). n / memory_width) words_length ∙ mul-div_cancel_left (e - a) (omega arith)

  part_record : (i : ℕ) → i < e - a → record_at trapezoid_codec (words_between a e s) i ≡ record_at trapezoid_codec s (a + i)
  unfolding record_at
  part_record i h =
      let n : memory_width * a + memory_width * i ≡ memory_width * (a + i) = omega arith in
      ap trapezoid_codec.decode
      (take_within memory_width (memory_width * i) (memory_width * e - memory_width * a) (drop (memory_width * a) s) (omega (arith, h))
      ∙ ap (take memory_width) (drop-drop (memory_width * i) (memory_width * a) s ∙ ap (λ (x : ℕ). drop x s) n))

  part_from : (n i : ℕ) → i + n ≤ e - a → records_from trapezoid_codec n (words_between a e s) i ≡ records_from trapezoid_codec n s (a + i)
  unfolding records_from
  part_from zero i h = refl
  part_from (suc n) i h =
      let f : a + (i + 1) ≡ a + i + 1 = omega arith in
      let r = part_record i (omega (arith, h)) in
      let rs = part_from n (i + 1) (omega (arith, h)) ∙ ap (records_from trapezoid_codec n s) f in
      λ j. r j ∷ rs j

  layer_part : trapezoids_between a e (layer_of s) ≡ records_from trapezoid_codec (e - a) s a
  layer_part =
      let c = count trapezoid_codec s in
      let n = e - a + (c - e) in
      let f : c ≡ a + n = omega (arith, l, k) in
      let z : 0 + a ≡ a = omega arith in
      let first = records_from trapezoid_codec a s 0 in
      let second = records_from trapezoid_codec (e - a) s a in
      ap (λ (m : ℕ). trapezoids_between a e (records_from trapezoid_codec m s 0)) f
      ∙ ap (trapezoids_between a e) (from_append trapezoid_codec a n s 0)
      ∙ ap (λ (m : ℕ). trapezoids_between a e (first ++ records_from trapezoid_codec n s m)) z
      ∙ ap (take (e - a)) (drop_at first (records_from trapezoid_codec n s a) a (length_from trapezoid_codec a s 0))
      ∙ ap (take (e - a)) (from_append trapezoid_codec (e - a) (c - e) s a)
      ∙ take_at second (records_from trapezoid_codec (c - e) s (a + (e - a))) (e - a) (length_from trapezoid_codec (e - a) s a)

  pub part_layer : layer_of (words_between a e s) ≡ trapezoids_between a e (layer_of s)
  part_layer =
      let z : a + 0 ≡ a = omega arith in
      ap (λ (n : ℕ). records_from trapezoid_codec n (words_between a e s) 0) part_count
      ∙ part_from (e - a) 0 (omega arith)
      ∙ ap (records_from trapezoid_codec (e - a) s) z
      ∙ sym layer_part

  pub part_length : length (trapezoids_between a e (layer_of s)) ≡ e - a
  part_length = ap length layer_part ∙ length_from trapezoid_codec (e - a) s a

-- where there is none
pub part_none : (a e : ℕ) (ts : List Trapezoid) → e ≤ a → trapezoids_between a e ts ≡ []
part_none a e ts l = let z : e - a ≡ 0 = omega arith in ap (λ (n : ℕ). take n (drop a ts)) z

part_box : (d : List ℤ) (a e i : ℕ) → i < e - a → box_at (boxes_between a e d) i ≡ box_at d (a + i)
unfolding box_at
part_box d a e i h =
    let p = word (box_width * i) (box_width * (a + i)) (omega (arith, h)) (omega arith) in
    let q = word (box_width * i + 1) (box_width * (a + i) + 1) (omega (arith, h)) (omega arith) in
    let r = word (box_width * i + 2) (box_width * (a + i) + 2) (omega (arith, h)) (omega arith) in
    let t = word (box_width * i + 3) (box_width * (a + i) + 3) (omega (arith, h)) (omega arith) in
    λ x. record { left = int (p x); right = int (q x); bottom = int (r x); top = int (t x) }
  where
    word : (n m : ℕ) → n < box_width * e - box_width * a → box_width * a + n ≡ m → get_or (boxes_between a e d) n (pos 0) ≡ get_or d m (pos 0)
    word n m h f =
        get_or-take (box_width * e - box_width * a) (drop (box_width * a) d) n (pos 0) h
        ∙ get_or-drop (box_width * a) d n (pos 0)
        ∙ ap (λ (x : ℕ). get_or d x (pos 0)) f

pub part_boxed : (s d : List ℤ) → BoxedLayer s d → (a e : ℕ) → a ≤ e → e ≤ count trapezoid_codec s → BoxedLayer (words_between a e s) (boxes_between a e d)
part_boxed s d h a e l k =
    let c = part_count s a e l k in
    record {
      layer = record {
        fit = subst (All (FitFor coordinate_limit)) (sym (part_layer s a e l k)) (all_take (FitFor coordinate_limit) (e - a) (drop a (layer_of s)) (all_drop (FitFor coordinate_limit) a (layer_of s) h.layer.fit));
        few = omega (arith, c, k, h.layer.few);
      };
      boxes = record {
        room =
            let n = length-take-le (box_width * e - box_width * a) (drop (box_width * a) d) (simp length-drop (omega (arith, l, k, h.boxes.room))) in
            omega (arith, c, n, l);
        each = λ i j.
            let m : i < e - a = omega (arith, c, j) in
            part_box d a e i m ∙ h.boxes.each (a + i) (omega (arith, m, k)) ∙ ap box_of (sym (part_record s a e l k i m));
      };
    }
