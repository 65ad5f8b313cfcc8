-- One difference: what its answer says of enclosing, and what disjoint boxes say of it.
use Rattle.std.specs.Prelude.{Some, None}
use mathlib.Core.Path.{◌≡◌, refl, sym, ◌∙◌, ap, ap₂}
use mathlib.Core.Bool.{true, false, not}
use mathlib.Core.List.{List, [], ◌∷◌}
use Prim.Native.Nat.{ℕ, zero, suc, ◌+◌, ◌*◌, ◌<◌, ◌≤◌}
use native.Mathlib.Omega.{arith}
use lib.Dec.{eqb}
use lib.ListN.{length}
use lib.IntN.{ℤ}
use borrow.Author.Tests.{eq-eqb, ne_eqb}
use Rattle.lists.specs.Lists.{All}
use Rattle.lists.proofs.Tests.{is_true}
use Rattle.records.specs.Records.{record_at, records_from, count}
use Rattle.records.proofs.Records.{length_from}
use Rattle.geometry.specs.declared.Trapezoid.{Trapezoid}
use Rattle.geometry.specs.Limit.{coordinate_limit}
use Rattle.geometry.specs.Fitness.{FitFor}
use Rattle.geometry.specs.Trapezoids.{trapezoid_codec, layer_of}
use Rattle.geometry.proofs.Layers.{all_record}
use Rattle.boolean.specs.Operations.{difference}
use Rattle.boolean.specs.Space.{enough}
use Rattle.boxes.specs.Boxes.{boxes_disjoint}
use Rattle.boxes.proofs.Rejecting.{no_overlap}
use Rattle.extraction.specs.Shapes.{is_some}
use Rattle.extraction.specs.Extraction.{shape_encloses}
use Rattle.extraction.proofs.Apart.{NoneOf, apart_difference, apart_enough, apart_no_room}
use Rattle.boxes_code.specs.Code.{box_at, BoxedLayer}
use Rattle.enclosure_code.specs.Code.{disjoint_from, all_disjoint, EnclosureIs}
use Rattle.enclosure_code.proofs.Numbers.{each_below}

pub some_of : (ts : List Trapezoid) → 0 < length ts → is_some ts ≡ true
some_of [] l = absurd (omega (arith, l))
some_of (t ∷ ts) l = refl

-- ---- by the difference, which has n trapezoids
pub encloses_none : (A B : List Trapezoid) (n : ℕ) → n ≡ length (difference B A) → shape_encloses A B ≡ eqb n 0
unfolding shape_encloses
encloses_none A B n e = go (difference B A) e
  where
    go : (ts : List Trapezoid) → n ≡ length ts → not (is_some ts) ≡ eqb n 0
    go [] e = sym (eq-eqb n 0 e)
    go (t ∷ ts) e = sym (ne_eqb n 0 (λ z. omega (arith, e, z)))

-- ---- by boxes
all-each : (P : Trapezoid → Type 0) (s : List ℤ) (n k : ℕ) → ((i : ℕ) → k ≤ i → i < k + n → P (record_at trapezoid_codec s i)) → All P (records_from trapezoid_codec n s k)
unfolding records_from
all-each P s zero k h = tt
all-each P s (suc n) k h = (h k (omega arith) (omega arith), all-each P s n (k + 1) (λ i l m. h i (omega (arith, l)) (omega (arith, m))))

all_records : (P : Trapezoid → Type 0) (s : List ℤ) → ((i : ℕ) → i < count trapezoid_codec s → P (record_at trapezoid_codec s i)) → All P (layer_of s)
all_records P s h = all-each P s (count trapezoid_codec s) 0 (λ i l m. h i (omega (arith, m)))

module _ (s d t c : List ℤ) (h : BoxedLayer s d) (g : BoxedLayer t c) (e : all_disjoint c (count trapezoid_codec t) d (count trapezoid_codec s) ≡ true) where
  abbrev A : List Trapezoid
  A = layer_of s

  abbrev B : List Trapezoid
  B = layer_of t

  none_overlap : All (NoneOf A) B
  unfolding all_disjoint disjoint_from
  none_overlap =
      all_records (NoneOf A) t
      (λ i l.
      let a = record_at trapezoid_codec t i in
      let f = each_below (λ (i : ℕ). disjoint_from (box_at c i) d (count trapezoid_codec s)) (count trapezoid_codec t) e i l in
      all_records _ s
      (λ j m.
      no_overlap coordinate_limit (omega arith) a (record_at trapezoid_codec s j) (all_record (FitFor coordinate_limit) t i g.layer.fit l) (all_record (FitFor coordinate_limit) s j h.layer.fit m)
      (is_true (sym (ap₂ boxes_disjoint (g.boxes.each i l) (h.boxes.each j m)) ∙ each_below (λ (j : ℕ). boxes_disjoint (box_at c i) (box_at d j)) (count trapezoid_codec s) f j m))))

  pub apart_full : (room : ℕ) → room < count trapezoid_codec t → EnclosureIs room A B None
  apart_full room l = apart_no_room room B A none_overlap (omega (arith, l, length_from trapezoid_codec (count trapezoid_codec t) t 0))

  pub apart_no : (room : ℕ) → count trapezoid_codec t ≤ room → 0 < count trapezoid_codec t → EnclosureIs room A B (Some (record { encloses = false; overlays = count trapezoid_codec t * count trapezoid_codec s }))
  apart_no room l some =
      let m = length_from trapezoid_codec (count trapezoid_codec t) t 0 in
      let n = length_from trapezoid_codec (count trapezoid_codec s) s 0 in
      let k = apart_difference B A none_overlap in (
        apart_enough room B A none_overlap (omega (arith, l, m)) ∙ (λ i. enough (m i * n i)),
        encloses_none A B (count trapezoid_codec t) (sym (ap length k ∙ m)) ∙ ne_eqb (count trapezoid_codec t) 0 (λ z. omega (arith, some, z)),
      )
