-- The loops that group a layer's trapezoids: what holds before each turn, that a turn keeps it, and what it says at the end.
use mathlib.Core.Path.{◌≡◌, refl, sym, ◌∙◌, ap, ap₂}
use mathlib.Core.Bool.{Bool, cond}
use mathlib.Core.List.{List, [], ◌∷◌, ◌++◌, append_assoc, append-nil}
use Prim.Native.Nat.{ℕ, suc, ◌+◌, ◌*◌, ◌-◌, ◌<◌, ◌≤◌}
use native.Mathlib.Numerals.{add-one}
use native.Mathlib.Omega.{arith}
use lib.Dec.{eqb}
use lib.ListN.{length, get_or, take, drop, length-append, take-append-drop}
use lib.Seq.{take-suc, take-length, length-take-le}
use lib.IntN.{ℤ, pos}
use borrow.Author.Tests.{eq-eqb, ne_eqb}
use borrow.Rule.Slice.PartMut.{put_mid, mid_of}
use Rattle.records.specs.Limits.{memory_width}
use Rattle.records.specs.Records.{record_at, records_from, count, image, Blank}
use Rattle.records.proofs.Records.{length_from, from_append}
use Rattle.records.proofs.Buffer.{length_image, image_none, image_one, tail_length, tail_blank, tail_back}
use Rattle.geometry.specs.declared.Trapezoid.{Trapezoid}
use Rattle.geometry.specs.Trapezoids.{trapezoid_codec, trapezoid_words, layer_of}
use Rattle.geometry.proofs.Trapezoids.{trapezoid_readable}
use Rattle.extraction.specs.Shapes.{having_number}
use Rattle.shapes_code.specs.Code.{groups_below, GroupedBelow}
use Rattle.shapes_code.proofs.Groups.{with_append, below_most}

-- ---- those with the number k, one by one
-- all with lower numbers, and of the first j those with the number k
abbrev gathered : ℕ → List ℤ → List ℕ → ℕ → List Trapezoid
gathered k s ns j = groups_below k ns (layer_of s) ++ having_number k (take j ns) (records_from trapezoid_codec j s 0)

pub record Gathering (k : ℕ) (s : List ℤ) (ns : List ℕ) (m : ℕ) (d : List ℤ) (j : ℕ) : Type 0 where
  pub one_each : length ns ≡ count trapezoid_codec s
  pub wide : length d ≡ memory_width * length ns
  pub is : d ≡ image trapezoid_codec (length d) (gathered k s ns j)
  pub many : m ≡ length (gathered k s ns j)
  pub upto : j ≤ length ns

pub gather_start : {k : ℕ} {s : List ℤ} {ns : List ℕ} {n : ℕ} {d : List ℤ} → GroupedBelow k s ns n d → Gathering k s ns n d 0
unfolding having_number
gather_start {k} {s} {ns} {n} {d} h =
    let e : gathered k s ns 0 ≡ groups_below k ns (layer_of s) = append-nil (groups_below k ns (layer_of s)) in
    record {
      one_each = h.one_each;
      wide = h.wide;
      is = h.is ∙ ap (image trapezoid_codec (length d)) (sym e);
      many = h.many ∙ ap length (sym e);
      upto = omega arith;
    }

module _ (k : ℕ) (s : List ℤ) (ns : List ℕ) (one_each : length ns ≡ count trapezoid_codec s) where
  first_length : (j : ℕ) → j ≤ length ns → length (take j ns) ≡ length (records_from trapezoid_codec j s 0)
  first_length j l = length-take-le j ns l ∙ sym (length_from trapezoid_codec j s 0)

  gathered_suc : (j : ℕ) → j < length ns → gathered k s ns (j + 1) ≡ gathered k s ns j ++ cond (eqb (get_or ns j 0) k) (record_at trapezoid_codec s j ∷ []) []
  unfolding having_number records_from
  gathered_suc j l =
      let z : 0 + j ≡ j = omega arith in
      let e : take (j + 1) ns ≡ take j ns ++ (get_or ns j 0 ∷ []) = ap (λ (n : ℕ). take n ns) (add-one j) ∙ take-suc ns j 0 l in
      let f : records_from trapezoid_codec (j + 1) s 0 ≡ records_from trapezoid_codec j s 0 ++ (record_at trapezoid_codec s j ∷ [])
      = from_append trapezoid_codec j 1 s 0 ∙ ap (λ (n : ℕ). records_from trapezoid_codec j s 0 ++ (record_at trapezoid_codec s n ∷ [])) z in
      ap (λ (w : List Trapezoid). groups_below k ns (layer_of s) ++ w) (ap₂ (having_number k) e f ∙ with_append k (take j ns) (get_or ns j 0 ∷ []) (records_from trapezoid_codec j s 0) (record_at trapezoid_codec s j ∷ []) (first_length j (omega (arith, l))))
      ∙ sym (append_assoc (groups_below k ns (layer_of s)) (having_number k (take j ns) (records_from trapezoid_codec j s 0)) (cond (eqb (get_or ns j 0) k) (record_at trapezoid_codec s j ∷ []) []))

  gathered_all : gathered k s ns (length ns) ≡ groups_below (suc k) ns (layer_of s)
  unfolding groups_below
  gathered_all =
      ap (λ (w : List Trapezoid). groups_below k ns (layer_of s) ++ w) (ap₂ (having_number k) (take-length ns) (ap (λ (n : ℕ). records_from trapezoid_codec n s 0) one_each))

  -- they have room
  gathered_most : (j : ℕ) → j ≤ length ns → length (gathered k s ns j) ≤ length ns
  unfolding groups_below
  gathered_most j l =
      let G = groups_below k ns (layer_of s) in
      let A = having_number k (take j ns) (records_from trapezoid_codec j s 0) in
      let B = having_number k (drop j ns) (records_from trapezoid_codec (count trapezoid_codec s - j) s (0 + j)) in
      let n : j + (count trapezoid_codec s - j) ≡ count trapezoid_codec s = omega (arith, one_each, l) in
      let f : layer_of s ≡ records_from trapezoid_codec j s 0 ++ records_from trapezoid_codec (count trapezoid_codec s - j) s (0 + j)
      = ap (λ (n : ℕ). records_from trapezoid_codec n s 0) (sym n) ∙ from_append trapezoid_codec j (count trapezoid_codec s - j) s 0 in
      let e : having_number k ns (layer_of s) ≡ A ++ B
      = ap₂ (having_number k) (sym (take-append-drop j ns)) f ∙ with_append k (take j ns) (drop j ns) (records_from trapezoid_codec j s 0) (records_from trapezoid_codec (count trapezoid_codec s - j) s (0 + j)) (first_length j l) in
      let m = below_most (suc k) ns (layer_of s) (one_each ∙ sym (length_from trapezoid_codec (count trapezoid_codec s) s 0)) in
      omega (arith, m, length-append G (having_number k ns (layer_of s)), length-append G A, ap length e, length-append A B)

module _ {k : ℕ} {s : List ℤ} {ns : List ℕ} {m : ℕ} {d : List ℤ} {j : ℕ} (h : Gathering k s ns m d j) where
  pub gather_stop : length ns ≤ j → GroupedBelow (suc k) s ns m d
  gather_stop l =
      let n : j ≡ length ns = omega (arith, l, h.upto) in
      let e : gathered k s ns j ≡ groups_below (suc k) ns (layer_of s) = ap (gathered k s ns) n ∙ gathered_all k s ns h.one_each in
      record { one_each = h.one_each; wide = h.wide; is = h.is ∙ ap (image trapezoid_codec (length d)) e; many = h.many ∙ ap length e }

  module _ (l : j < length ns) where
    -- number j has another number
    pub gather_skip : (get_or ns j 0 ≡ k → ⊥) → Gathering k s ns m d (j + 1)
    gather_skip n =
        let e : gathered k s ns (j + 1) ≡ gathered k s ns j
        = gathered_suc k s ns h.one_each j l ∙ ap (λ (b : Bool). gathered k s ns j ++ cond b (record_at trapezoid_codec s j ∷ []) []) (ne_eqb (get_or ns j 0) k n) ∙ append-nil (gathered k s ns j) in
        record {
          one_each = h.one_each;
          wide = h.wide;
          is = h.is ∙ ap (image trapezoid_codec (length d)) (sym e);
          many = h.many ∙ ap length (sym e);
          upto = omega (arith, l);
        }

    -- it has the number k: it stands past the others
    module _ (y : get_or ns j 0 ≡ k) where
      next : gathered k s ns (j + 1) ≡ gathered k s ns j ++ (record_at trapezoid_codec s j ∷ [])
      next = gathered_suc k s ns h.one_each j l ∙ ap (λ (b : Bool). gathered k s ns j ++ cond b (record_at trapezoid_codec s j ∷ []) []) (eq-eqb (get_or ns j 0) k y)

      longer : m + 1 ≡ length (gathered k s ns (j + 1))
      longer = omega (arith, h.many, ap length next, length-append (gathered k s ns j) (record_at trapezoid_codec s j ∷ []))

      pub gather_few : m + 1 ≤ length ns
      gather_few = omega (arith, longer, gathered_most k s ns h.one_each (j + 1) (omega (arith, l)))

      room : memory_width * m ≤ length d
      room = omega (arith, gather_few, h.wide)

      pub gather_room : memory_width ≤ length (mid_of (memory_width * m) (length d - memory_width * m) d)
      gather_room = omega (arith, tail_length trapezoid_codec trapezoid_readable (length d) m d (gathered k s ns j) h.is h.many room, gather_few, h.wide)

      pub gather_add : (t : Trapezoid) → t ≡ record_at trapezoid_codec s j → (w : List ℤ) → w ≡ (trapezoid_words t ++ (pos 0 ∷ [])) ++ drop memory_width (mid_of (memory_width * m) (length d - memory_width * m) d)
          → Gathering k s ns (m + 1) (put_mid (memory_width * m) (length d - memory_width * m) d w) (j + 1)
      gather_add t e w f =
          let a = gathered k s ns j in
          let tail = mid_of (memory_width * m) (length d - memory_width * m) d in
          let size = tail_length trapezoid_codec trapezoid_readable (length d) m d a h.is h.many room in
          let blank = tail_blank trapezoid_codec trapezoid_readable (length d) m d a h.is h.many room in
          let g : w ≡ image trapezoid_codec (length d - memory_width * m) (t ∷ [])
          = f ∙ image_one trapezoid_codec trapezoid_readable t tail blank ∙ ap (λ (n : ℕ). image trapezoid_codec n (t ∷ [])) size in
          let b : put_mid (memory_width * m) (length d - memory_width * m) d w ≡ image trapezoid_codec (length d) (gathered k s ns (j + 1))
          = tail_back trapezoid_codec trapezoid_readable (length d) m d a h.is h.many room w (t ∷ []) g ∙ ap (image trapezoid_codec (length d)) (ap (λ (u : Trapezoid). a ++ (u ∷ [])) e ∙ sym next) in
          let n : length (put_mid (memory_width * m) (length d - memory_width * m) d w) ≡ length d
          = ap length b ∙ length_image trapezoid_codec trapezoid_readable (length d) (gathered k s ns (j + 1)) (omega (arith, longer, gather_few, h.wide)) in
          record {
            one_each = h.one_each;
            wide = n ∙ h.wide;
            is = b ∙ ap (λ (n : ℕ). image trapezoid_codec n (gathered k s ns (j + 1))) (sym n);
            many = longer;
            upto = omega (arith, l);
          }

-- ---- number after number
pub record Grouping (s : List ℤ) (ns ends : List ℕ) (n : ℕ) (d : List ℤ) (k : ℕ) : Type 0 where
  pub below : GroupedBelow k s ns n d
  pub long : length ends ≡ length ns
  pub each : (i : ℕ) → i < k → get_or ends i 0 ≡ length (groups_below (suc i) ns (layer_of s))
  pub upto : k ≤ length ns

pub group_start : {s : List ℤ} {ns ends : List ℕ} {d : List ℤ} → length ns ≡ count trapezoid_codec s → length ends ≡ length ns → length d ≡ memory_width * length ns → Blank (pos 0) d → Grouping s ns ends 0 d 0
unfolding groups_below
group_start {s} {ns} {ends} {d} o e w z =
    record {
      below = record { one_each = o; wide = w; is = z ∙ sym (image_none trapezoid_codec trapezoid_readable (length d)); many = refl };
      long = e;
      each = λ i l. absurd (omega (arith, l));
      upto = omega arith;
    }

pub below_few : {k : ℕ} {s : List ℤ} {ns : List ℕ} {n : ℕ} {d : List ℤ} → GroupedBelow k s ns n d → n ≤ length ns
below_few {k} {s} {ns} h = omega (arith, h.many, below_most k ns (layer_of s) (h.one_each ∙ sym (length_from trapezoid_codec (count trapezoid_codec s) s 0)))
