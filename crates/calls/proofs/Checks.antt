-- What a call may go by once its rows let it pass, and the sizes of a refusal's number and place.
use mathlib.Core.Path.{◌≡◌, refl}
use mathlib.Core.Bool.{Bool, true, false, ◌&&◌}
use mathlib.Core.List.{List, ◌++◌}
use Prim.Native.Nat.{ℕ, ◌*◌, ◌/◌, ◌<◌, ◌≤◌}
use native.Mathlib.Omega.{arith}
use lib.Dec.{eqb}
use lib.ListN.{length, length-append}
use lib.IntN.{ℤ}
use borrow.Author.Tests.{ltb-true, eqb-true}
use Rattle.lists.specs.Lists.{All}
use Rattle.lists.proofs.Conjunction.{and_left, and_right}
use Rattle.lists.proofs.Lists.{all_left, all_right, all_map}
use Rattle.records.specs.Limits.{memory_width, max_records, sized}
use Rattle.records.specs.Records.{count}
use Rattle.records.proofs.Records.{length_from}
use Rattle.geometry.specs.declared.Trapezoid.{Trapezoid}
use Rattle.geometry.specs.Limit.{coordinate_limit}
use Rattle.geometry.specs.Points.{Point}
use Rattle.geometry.specs.Trapezoids.{trapezoid_codec, layer_of}
use Rattle.geometry.specs.Fitness.{FitFor, first_refusal, FitLayer}
use Rattle.geometry.proofs.Refusals.{SmallChecked, small_first}
use Rattle.geometry.proofs.Fitness.{layer_exact, fit_more}
use Rattle.boolean.specs.Operations.{is_code}
use Rattle.calls.specs.Rows.{plate_limit, row, buffers_sized, point_passes, both_checked, combine_checked, deoverlap_checked, equal_checked, contains_checked}
use Rattle.calls.proofs.Rows.{sized_most, sized-whole}
use Rattle.std.specs.Prelude.{Result, Ok}
use Rattle.geometry.specs.declared.Refusal.{Refusal}

-- ---- passed
pub row_passed : (n : ℕ) (b : Bool) (c : Result (Unit {0}) Refusal) → row n b c ≡ Ok tt → (b ≡ true) × (c ≡ Ok tt)
row_passed n true c e = (refl, e)
row_passed n false c e = let z : ◌≡◌ {A = ℕ} 0 1 = cc in absurd (omega arith)

-- the words of a layer of at most 512 trapezoids, fit for a limit
pub record LayerFor (L : ℕ) (a : List ℤ) : Type 0 where
  pub fit : All (FitFor L) (layer_of a)
  pub few : count trapezoid_codec a ≤ max_records

pub layer_ready : (L : ℕ) (a : List ℤ) → sized (length a) ≡ true → All (FitFor L) (layer_of a) → LayerFor L a
layer_ready L a e h = record { fit = h; few = omega (arith, sized_most (length a) e) }

-- the public functions' limit is one that the arithmetic carries
pub plate_carried : plate_limit ≤ coordinate_limit
plate_carried = omega arith

-- under any limit that the arithmetic carries
pub fit_carried : (L : ℕ) → L ≤ coordinate_limit → (ts : List Trapezoid) → All (FitFor L) ts → All (FitFor coordinate_limit) ts
fit_carried L l ts h = all_map (λ (t : Trapezoid). fit_more L coordinate_limit t l) ts h

pub layer_of_lem : (L : ℕ) (a : List ℤ) → L ≤ coordinate_limit → LayerFor L a → FitLayer a
layer_of_lem L a l h = record { fit = fit_carried L l (layer_of a) h.fit; few = h.few }

-- a scratch area as long as the output, which takes so many trapezoids and no part of one
pub record Buffers (out scratch : ℕ) : Type 0 where
  pub same : scratch ≡ out
  pub few : out / memory_width ≤ max_records
  pub whole : memory_width * (out / memory_width) ≡ out

pub buffers_ready : (out scratch : ℕ) → buffers_sized out scratch ≡ true → Buffers out scratch
buffers_ready out scratch e =
    record {
      same = eqb-true scratch out (and_right (sized scratch) (eqb scratch out) (and_right (sized out) (sized scratch && eqb scratch out) e));
      few = omega (arith, sized_most out (and_left (sized out) (sized scratch && eqb scratch out) e));
      whole = omega (arith, sized-whole out (and_left (sized out) (sized scratch && eqb scratch out) e));
    }

module _ (L : ℕ) (a b : List ℤ) where
  -- rows 7 to 11 of two layers
  first_fit : both_checked L a b ≡ Ok tt → All (FitFor L) (layer_of a)
  first_fit e = all_left (FitFor L) (layer_of a) (layer_of b) ((layer_exact L 0 (layer_of a ++ layer_of b)).0 e)

  second_fit : both_checked L a b ≡ Ok tt → All (FitFor L) (layer_of b)
  second_fit e = all_right (FitFor L) (layer_of a) (layer_of b) ((layer_exact L 0 (layer_of a ++ layer_of b)).0 e)

  module _ (out scratch : ℕ) (s : sized (length a) && (sized (length b) && buffers_sized out scratch) ≡ true) (e : both_checked L a b ≡ Ok tt) where
    first_ready : LayerFor L a
    first_ready = layer_ready L a (and_left _ _ s) (first_fit e)

    second_ready : LayerFor L b
    second_ready = layer_ready L b (and_left _ _ (and_right (sized (length a)) _ s)) (second_fit e)

    both_buffers : Buffers out scratch
    both_buffers = buffers_ready out scratch (and_right (sized (length b)) _ (and_right (sized (length a)) _ s))

pub record CombineReady (L code : ℕ) (a b : List ℤ) (out scratch : ℕ) : Type 0 where
  pub is_code_lem : code < 5
  pub first : LayerFor L a
  pub second : LayerFor L b
  pub buffers : Buffers out scratch

pub combine_ready : (L code : ℕ) (a b : List ℤ) (out scratch : ℕ) → combine_checked L code a b out scratch ≡ Ok tt → CombineReady L code a b out scratch
unfolding combine_checked
combine_ready L code a b out scratch e =
    let h = row_passed 1 (sized (length a) && (sized (length b) && buffers_sized out scratch)) (row 2 (is_code code) (both_checked L a b)) e in
    let k = row_passed 2 (is_code code) (both_checked L a b) h.1 in
    record {
      is_code_lem = ltb-true code 5 k.0;
      first = first_ready L a b out scratch h.0 k.1;
      second = second_ready L a b out scratch h.0 k.1;
      buffers = both_buffers L a b out scratch h.0 k.1;
    }

-- as the functions that go on from there ask it
pub combine_buffers : (L code : ℕ) (a b : List ℤ) (out scratch : ℕ) → combine_checked L code a b out scratch ≡ Ok tt → buffers_sized out scratch ≡ true
unfolding combine_checked
combine_buffers L code a b out scratch e =
    and_right (sized (length b)) _ (and_right (sized (length a)) _ (row_passed 1 (sized (length a) && (sized (length b) && buffers_sized out scratch)) (row 2 (is_code code) (both_checked L a b)) e).0)

pub record DeoverlapReady (L : ℕ) (a : List ℤ) (out scratch : ℕ) : Type 0 where
  pub layer : LayerFor L a
  pub buffers : Buffers out scratch

pub deoverlap_ready : (L : ℕ) (a : List ℤ) (out scratch : ℕ) → deoverlap_checked L a out scratch ≡ Ok tt → DeoverlapReady L a out scratch
unfolding deoverlap_checked
deoverlap_ready L a out scratch e =
    let h = row_passed 1 (sized (length a) && buffers_sized out scratch) (first_refusal L 0 (layer_of a)) e in
    record {
      layer = layer_ready L a (and_left (sized (length a)) _ h.0) ((layer_exact L 0 (layer_of a)).0 h.1);
      buffers = buffers_ready out scratch (and_right (sized (length a)) _ h.0);
    }

pub record EqualReady (L : ℕ) (a b : List ℤ) (out scratch : ℕ) : Type 0 where
  pub first : LayerFor L a
  pub second : LayerFor L b
  pub buffers : Buffers out scratch

pub equal_ready : (L : ℕ) (a b : List ℤ) (out scratch : ℕ) → equal_checked L a b out scratch ≡ Ok tt → EqualReady L a b out scratch
unfolding equal_checked
equal_ready L a b out scratch e =
    let h = row_passed 1 (sized (length a) && (sized (length b) && buffers_sized out scratch)) (both_checked L a b) e in
    record { first = first_ready L a b out scratch h.0 h.1; second = second_ready L a b out scratch h.0 h.1; buffers = both_buffers L a b out scratch h.0 h.1 }

pub equal_buffers : (L : ℕ) (a b : List ℤ) (out scratch : ℕ) → equal_checked L a b out scratch ≡ Ok tt → buffers_sized out scratch ≡ true
unfolding equal_checked
equal_buffers L a b out scratch e =
    and_right (sized (length b)) _ (and_right (sized (length a)) _ (row_passed 1 (sized (length a) && (sized (length b) && buffers_sized out scratch)) (both_checked L a b) e).0)

pub record ContainsReady (L : ℕ) (P : Point) (a b : List ℤ) (code : ℕ) : Type 0 where
  pub is_code_lem : code < 5
  pub point : point_passes L P ≡ true
  pub first : LayerFor L a
  pub second : LayerFor L b

pub contains_ready : (L : ℕ) (P : Point) (a b : List ℤ) (code : ℕ) → contains_checked L P a b code ≡ Ok tt → ContainsReady L P a b code
unfolding contains_checked
contains_ready L P a b code e =
    let h = row_passed 1 (sized (length a) && sized (length b)) (row 2 (is_code code) (row 3 (point_passes L P) (both_checked L a b))) e in
    let k = row_passed 2 (is_code code) (row 3 (point_passes L P) (both_checked L a b)) h.1 in
    let j = row_passed 3 (point_passes L P) (both_checked L a b) k.1 in
    record {
      is_code_lem = ltb-true code 5 k.0;
      point = j.0;
      first = layer_ready L a (and_left (sized (length a)) (sized (length b)) h.0) (first_fit L a b j.1);
      second = layer_ready L b (and_right (sized (length a)) (sized (length b)) h.0) (second_fit L a b j.1);
    }

-- ---- refused
pub small_row : (n : ℕ) → n < 256 → (b : Bool) (c : Result (Unit {0}) Refusal) → (b ≡ true → SmallChecked c) → SmallChecked (row n b c)
small_row n l true c h = h refl
small_row n l false c h = (l, omega arith)

pub layer-length : (a : List ℤ) → sized (length a) ≡ true → length (layer_of a) ≤ max_records
layer-length a e = omega (arith, length_from trapezoid_codec (count trapezoid_codec a) a 0, sized_most (length a) e)

small_layers : (L : ℕ) (a b : List ℤ) → sized (length a) ≡ true → sized (length b) ≡ true → SmallChecked (both_checked L a b)
small_layers L a b e f =
    let n = length-append (layer_of a) (layer_of b) in
    small_first L 0 (layer_of a ++ layer_of b) (omega (arith, n, layer-length a e, layer-length b f))

pub combine_refused : (L code : ℕ) (a b : List ℤ) (out scratch : ℕ) → SmallChecked (combine_checked L code a b out scratch)
unfolding combine_checked
combine_refused L code a b out scratch =
    small_row 1 (omega arith) (sized (length a) && (sized (length b) && buffers_sized out scratch)) (row 2 (is_code code) (both_checked L a b)) (λ s.
    small_row 2 (omega arith) (is_code code) (both_checked L a b) (λ e.
    small_layers L a b (and_left (sized (length a)) _ s) (and_left (sized (length b)) _ (and_right (sized (length a)) _ s))))

pub deoverlap_refused : (L : ℕ) (a : List ℤ) (out scratch : ℕ) → SmallChecked (deoverlap_checked L a out scratch)
unfolding deoverlap_checked
deoverlap_refused L a out scratch =
    small_row 1 (omega arith) (sized (length a) && buffers_sized out scratch) (first_refusal L 0 (layer_of a)) (λ s.
    small_first L 0 (layer_of a) (omega (arith, layer-length a (and_left (sized (length a)) _ s))))

pub equal_refused : (L : ℕ) (a b : List ℤ) (out scratch : ℕ) → SmallChecked (equal_checked L a b out scratch)
unfolding equal_checked
equal_refused L a b out scratch =
    small_row 1 (omega arith) (sized (length a) && (sized (length b) && buffers_sized out scratch)) (both_checked L a b) (λ s.
    small_layers L a b (and_left (sized (length a)) _ s) (and_left (sized (length b)) _ (and_right (sized (length a)) _ s)))

pub contains_refused : (L : ℕ) (P : Point) (a b : List ℤ) (code : ℕ) → SmallChecked (contains_checked L P a b code)
unfolding contains_checked
contains_refused L P a b code =
    small_row 1 (omega arith) (sized (length a) && sized (length b)) (row 2 (is_code code) (row 3 (point_passes L P) (both_checked L a b))) (λ s.
    small_row 2 (omega arith) (is_code code) (row 3 (point_passes L P) (both_checked L a b)) (λ e.
    small_row 3 (omega arith) (point_passes L P) (both_checked L a b) (λ p.
    small_layers L a b (and_left (sized (length a)) (sized (length b)) s) (and_right (sized (length a)) (sized (length b)) s))))
