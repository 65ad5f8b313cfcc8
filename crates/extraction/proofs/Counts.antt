-- The overlays that the differences of two layers' shapes make, and that they are few where there is room.
use mathlib.Core.Path.{◌≡◌, refl, ◌∙◌, ap}
use mathlib.Core.Bool.{Bool, true, false, cond}
use mathlib.Core.List.{List, [], ◌∷◌, ◌++◌}
use mathlib.Core.Logic.{inl, inr}
use Prim.Native.Nat.{ℕ, zero, suc, ◌+◌, ◌*◌, ◌≤◌}
use native.Mathlib.Nat.{mul-le-mul}
use native.Mathlib.Omega.{arith}
use lib.Dec.{eqb, eqb→eq}
use lib.ListN.{length, length-append, take}
use Rattle.lists.specs.Lists.{All, each}
use Rattle.lists.specs.Tests.{bit, total}
use Rattle.lists.proofs.Tests.{false_is, yes_or_no}
use Rattle.lists.proofs.Lists.{all_of, all_left, all_right}
use Rattle.lists.proofs.Counts.{bit_most, total_append}
use Rattle.lists.proofs.Each.{total-each, total_keep, total_none}
use Rattle.records.specs.Limits.{max_records}
use Rattle.geometry.specs.declared.Trapezoid.{Trapezoid}
use Rattle.overlay.specs.Overlay.{overlay, tagged}
use Rattle.boolean.specs.Operations.{minus, minus_all}
use Rattle.boolean.specs.Space.{Stage, addition, overlays_of, enough, space, minus_stages, minus_all_stages, one_stages, difference_stages}
use Rattle.boolean.specs.Counts.{sum_below, all_overlays, Within, count_difference}
use Rattle.boolean.proofs.Stages.{space_exact}
use Rattle.boolean.proofs.Counts.{difference_overlays}
use Rattle.connectivity.specs.Components.{own_numbers, component_numbers}
use Rattle.extraction.specs.Shapes.{having_number, shape_of, is_some, shape_numbers}
use Rattle.extraction.specs.Extraction.{enclosing_stages}
use Rattle.extraction.specs.Statements.{EnclosingOverlays}

-- ---- the sum over all differences
pub enclosing_overlays : EnclosingOverlays
unfolding enclosing_stages
enclosing_overlays ts us =
    total-each overlays_of (λ i. each (λ j. difference_stages 0 (shape_of us j) (shape_of ts i)) (shape_numbers us)) (shape_numbers ts)
    ∙ (λ p. total (λ i. row i p) (shape_numbers ts))
  where
    row : (i : ℕ) → all_overlays (each (λ j. difference_stages 0 (shape_of us j) (shape_of ts i)) (shape_numbers us)) ≡ total (λ j. count_difference (shape_of us j) (shape_of ts i)) (shape_numbers us)
    row i =
        total-each overlays_of (λ j. difference_stages 0 (shape_of us j) (shape_of ts i)) (shape_numbers us)
        ∙ (λ p. total (λ j. difference_overlays 0 (shape_of us j) (shape_of ts i) p) (shape_numbers us))

-- ---- one difference: while there is room for it each remainder has at most as many trapezoids as the room, or one
module _ (room : ℕ) where
  within_left : (ms ns : List Stage) → All (Within room) (ms ++ ns) → All (Within room) ms
  within_left ms ns h = all_left (Within room) ms ns h

  within_right : (ms ns : List Stage) → All (Within room) (ms ++ ns) → All (Within room) ns
  within_right ms ns h = all_right (Within room) ms ns h

  minus_within : (k : ℕ) (rs : List Trapezoid) (b : Trapezoid) → k + length rs ≤ room → All (Within room) (minus_stages k rs b) → k + length (minus rs b) ≤ room
  unfolding minus minus_stages
  minus_within k [] b l h = l
  minus_within k (r ∷ rs) b l h =
      let n = length (tagged 1 (overlay r b)) in
      let e = length-append (tagged 1 (overlay r b)) (minus rs b) in
      let w = minus_within (k + n) rs b h.0 h.1 in
      omega (arith, e, w)

  minus_few : (k : ℕ) (rs : List Trapezoid) (b : Trapezoid) → All (Within room) (minus_stages k rs b) → length (minus rs b) ≤ room
  unfolding minus minus_stages
  minus_few k [] b h = omega arith
  minus_few k (r ∷ rs) b h =
      let n = length (tagged 1 (overlay r b)) in
      let e = length-append (tagged 1 (overlay r b)) (minus rs b) in
      let w = minus_within (k + n) rs b h.0 h.1 in
      omega (arith, e, w)

  module _ (most : ℕ) (hr : room ≤ most) (h1 : 1 ≤ most) where
    all_few : (k : ℕ) (rs B : List Trapezoid) → length rs ≤ most → All (Within room) (minus_all_stages k rs B) → sum_below (length B) (λ i. length (minus_all rs (take i B))) ≤ length B * most
    unfolding minus_all minus_all_stages
    all_few k rs [] l h = omega arith
    all_few k rs (b ∷ B) l h =
        let w = minus_few k rs b (within_left (minus_stages k rs b) (minus_all_stages k (minus rs b) B) h) in
        let s = all_few k (minus rs b) B (omega (arith, w, hr)) (within_right (minus_stages k rs b) (minus_all_stages k (minus rs b) B) h) in
        omega (arith, l, s)

    count_few : (k : ℕ) (A B : List Trapezoid) → All (Within room) (difference_stages k A B) → count_difference A B ≤ length A * (length B * most)
    unfolding difference_stages
    count_few k [] B h = omega arith
    count_few k (a ∷ A) B h =
        let j = k + length (minus_all (a ∷ []) B) in
        let o = within_left (one_stages k a B) (difference_stages j A B) h in
        let one = all_few k (a ∷ []) B h1 (within_left (minus_all_stages k (a ∷ []) B) (addition j ∷ []) o) in
        let rest = count_few j A B (within_right (one_stages k a B) (difference_stages j A B) h) in
        omega (arith, one, rest)

    -- many: of shapes F and G with these numbers
    module _ (F G : ℕ → List Trapezoid) where
      row_few : (i : ℕ) (js : List ℕ) → All (Within room) (each (λ j. difference_stages 0 (G j) (F i)) js)
          → total (λ j. count_difference (G j) (F i)) js ≤ total (λ j. length (G j)) js * (length (F i) * most)
      unfolding each
      row_few i [] h = omega arith
      row_few i (j ∷ js) h =
          let one = count_few 0 (G j) (F i) (within_left (difference_stages 0 (G j) (F i)) (each (λ j. difference_stages 0 (G j) (F i)) js) h) in
          let rest = row_few i js (within_right (difference_stages 0 (G j) (F i)) (each (λ j. difference_stages 0 (G j) (F i)) js) h) in
          omega (arith, one, rest)

      rows_few : (is js : List ℕ) → All (Within room) (each (λ i. each (λ j. difference_stages 0 (G j) (F i)) js) is)
          → total (λ i. total (λ j. count_difference (G j) (F i)) js) is ≤ total (λ j. length (G j)) js * (total (λ i. length (F i)) is * most)
      unfolding each
      rows_few [] js h = omega arith
      rows_few (i ∷ is) js h =
          let row = each (λ j. difference_stages 0 (G j) (F i)) js in
          let more = each (λ i. each (λ j. difference_stages 0 (G j) (F i)) js) is in
          let one = row_few i js (within_left row more h) in
          let rest = rows_few is js (within_right row more h) in
          omega (arith, one, rest)

pub difference_few : (room k n : ℕ) (A B : List Trapezoid) → room ≤ max_records → space room (difference_stages k A B) ≡ enough n → n ≤ length A * (length B * max_records)
difference_few room k n A B l e =
    let s = (space_exact room (difference_stages k A B) n).1.0 e in
    let c = count_few room max_records l (omega arith) k A B s.0 in
    omega (arith, s.1, difference_overlays k A B, c)

-- ---- the shapes of a layer have together at most as many trapezoids as the layer
-- how often n is among ks: at most once among the numbers below m
abbrev times : ℕ → List ℕ → ℕ
times n ks = total (λ k. bit (eqb n k)) ks

below_none : (n m : ℕ) → m ≤ n → times n (own_numbers m) ≡ 0
unfolding own_numbers
below_none n zero l = refl
below_none n (suc m) l =
    let s = total_append (λ k. bit (eqb n k)) (own_numbers m) (m ∷ []) in
    let h = below_none n m (omega (arith, l)) in
    elim (yes_or_no (eqb n m)) [
      | inl t ↦ absurd (let e = eqb→eq n m t in omega (arith, l, e))
      | inr t ↦ (let e : eqb n m ≡ false = false_is t in let b = ap bit e in omega (arith, s, h, b))
    ]

below_once : (n m : ℕ) → times n (own_numbers m) ≤ 1
unfolding own_numbers
below_once n zero = omega arith
below_once n (suc m) =
    let s = total_append (λ k. bit (eqb n k)) (own_numbers m) (m ∷ []) in
    elim (yes_or_no (eqb n m)) [
      | inl t ↦ (let h = below_none n m (let e = eqb→eq n m t in omega (arith, e)) in let b = bit_most (eqb n m) in omega (arith, s, h, b))
      | inr t ↦ (let h = below_once n m in let e : eqb n m ≡ false = false_is t in let b = ap bit e in omega (arith, s, h, b))
    ]

one_more : (n : ℕ) (ns : List ℕ) (t : Trapezoid) (ts : List Trapezoid) (ks : List ℕ)
    → total (λ k. length (having_number k (n ∷ ns) (t ∷ ts))) ks ≡ times n ks + total (λ k. length (having_number k ns ts)) ks
unfolding having_number
one_more n ns t ts [] = refl
one_more n ns t ts (k ∷ ks) =
    let h = one_more n ns t ts ks in
    let e = longer (eqb n k) (having_number k ns ts) in
    omega (arith, h, e)
  where
    longer : (b : Bool) (us : List Trapezoid) → length (cond b (t ∷ us) us) ≡ bit b + length us
    longer true us = omega arith
    longer false us = omega arith

-- of trapezoids with any numbers
with_few : (ns : List ℕ) (ts : List Trapezoid) (ks : List ℕ) → ((n : ℕ) → times n ks ≤ 1) → total (λ k. length (having_number k ns ts)) ks ≤ length ts
unfolding having_number
with_few [] ts ks d = let z = total_none (λ (k : ℕ). 0) ks (all_of (λ (k : ℕ). 0 ≡ 0) (λ k. refl) ks) in omega (arith, z)
with_few (n ∷ ns) [] ks d = let z = total_none (λ (k : ℕ). 0) ks (all_of (λ (k : ℕ). 0 ≡ 0) (λ k. refl) ks) in omega (arith, z)
with_few (n ∷ ns) (t ∷ ts) ks d = let e = one_more n ns t ts ks in let h = with_few ns ts ks d in let o = d n in omega (arith, e, h, o)

pub shapes_few : (ts : List Trapezoid) → total (λ k. length (shape_of ts k)) (shape_numbers ts) ≤ length ts
unfolding shape_of shape_numbers
shapes_few ts = with_few (component_numbers ts) ts (shape_numbers ts) once
  where
    once : (n : ℕ) → times n (shape_numbers ts) ≤ 1
    once n =
        let h = total_keep (λ k. bit (eqb n k)) (λ k. is_some (shape_of ts k)) (own_numbers (length ts)) in
        let o = below_once n (length ts) in
        omega (arith, h, o)

-- ---- all differences of two layers' shapes
pub enclosing_few : (room n : ℕ) (ts us : List Trapezoid) → room ≤ max_records → space room (enclosing_stages ts us) ≡ enough n → n ≤ max_records * (length us * length ts)
unfolding enclosing_stages
enclosing_few room n ts us l e =
    let s = (space_exact room (enclosing_stages ts us) n).1.0 e in
    let f = rows_few room max_records l (omega arith) (shape_of ts) (shape_of us) (shape_numbers ts) (shape_numbers us) s.0 in
    let o = enclosing_overlays ts us in
    let m = mul-le-mul (shapes_few us) (shapes_few ts) in
    omega (arith, s.1, o, f, m)
