-- The operations put together from differences: what an answer about one part says of the whole.
use Rattle.std.specs.Prelude.{Result, Ok, Err}
use mathlib.Core.Path.{◌≡◌, refl, sym, ◌∙◌, ap, subst}
use mathlib.Core.List.{List, ◌∷◌, ◌++◌}
use Prim.Native.Nat.{ℕ, ◌*◌, ◌-◌, ◌<◌, ◌≤◌}
use native.Mathlib.Omega.{arith}
use lib.ListN.{length, take, drop, replicate}
use lib.IntN.{ℤ, pos}
use borrow.Author.Tests.{lt-ltb, le-ltb}
use Rattle.lists.proofs.Lists.{all_of}
use Rattle.lists.proofs.Parts.{drop_replicate}
use Rattle.records.specs.Limits.{memory_width}
use Rattle.records.specs.Records.{words_of, image, count}
use Rattle.records.proofs.Records.{length_from, words_from}
use Rattle.records.proofs.Buffer.{image_records, length_image}
use Rattle.geometry.specs.declared.Trapezoid.{Trapezoid}
use Rattle.geometry.specs.Trapezoids.{trapezoid_codec, layer_of}
use Rattle.sources.specs.Sourced.{Sourced, sourced_codec, sourced_of}
use Rattle.sources.proofs.Sourced.{sourced_faithful, shapes_of}
use Rattle.boolean.specs.declared.Folded.{Folded}
use Rattle.boolean.specs.Operations.{difference, Code, union, intersect, a_minus_b, b_minus_a, symmetric_difference, code_at}
use Rattle.boolean.specs.Sources.{sourced_difference, sourced_intersection, sourced_result}
use Rattle.boolean.specs.Space.{Stage, addition, no_room, plus, space, difference_stages, stages}
use Rattle.boolean.proofs.Space.{plus_none, space_enough, space_no_room}
use Rattle.boolean.specs.declared.NoRoom.{NoRoom}
use Rattle.boolean.specs.Folds.{folded, no_room_after}
use Rattle.trapezoids_code.specs.Tails.{Borrowed}
use Rattle.remainder_code.specs.Code.{with_overlays}
use Rattle.bearing_code.specs.Code.{SourcedAs, standing, Holding}
use Rattle.bearing_code.proofs.Bearing.{filled_standing}
use Rattle.difference_code.proofs.Folds.{difference-count}

-- ---- after what a success has left
module _ (n room : ℕ) (ts : List Sourced) (ms : List Stage) (p c : ℕ) (t : List ℤ) (g : SourcedAs n room ts ms (folded p c) t) (long : length t ≡ n) (wide : memory_width * room ≤ n) where
  pub holding_done : Holding t p room
  holding_done =
      let d = filled_standing n room ts p t g.1 in
      record { is = g.1.2 ∙ (λ j. image sourced_codec (sym long j) (sym d j)); within = omega (arith, g.1.0, g.1.1); wide = omega (arith, long, wide) }

  -- `us` with the stages `ns p` follow
  pub folded_after : (us : List Sourced) (ns : ℕ → List Stage) (r : Result Folded NoRoom) (v : List ℤ) → SourcedAs (length t) room (standing t p ++ us) (ns p) r v → SourcedAs n room (ts ++ us) (ms ++ ns (length ts)) (with_overlays c r) v
  folded_after us ns r v h =
      let d = filled_standing n room ts p t g.1 in
      let a = subst (λ (x : List Sourced). SourcedAs (length t) room (x ++ us) (ns p) r v) d h in
      let b = subst (λ (x : ℕ). SourcedAs (length t) room (ts ++ us) (ns x) r v) g.1.0 a in
      go r (subst (λ (x : ℕ). SourcedAs x room (ts ++ us) (ns (length ts)) r v) long b)
    where
      go : (r : Result Folded NoRoom) → SourcedAs n room (ts ++ us) (ns (length ts)) r v → SourcedAs n room (ts ++ us) (ms ++ ns (length ts)) (with_overlays c r) v
      go (Err q) x = (space_enough room c ms (ns (length ts)) g.0 ∙ ap (plus c) x.0, x.1)
      go (Ok q) x = (space_enough room c ms (ns (length ts)) g.0 ∙ ap (plus c) x.0, x.1)

-- ---- after a layer that was copied
add_over : (room k : ℕ) (ms : List Stage) → room < k → space room (addition k ∷ ms) ≡ no_room 0
unfolding space
add_over room k ms l = rw (lt-ltb room k l) refl

add_next : (room k : ℕ) (ms : List Stage) → k ≤ room → space room (addition k ∷ ms) ≡ space room ms
unfolding space
add_next room k ms l = rw (le-ltb room k l) (plus_none (space room ms))

module _ (first d : List ℤ) (room : ℕ) (h : Borrowed d room) where
  abbrev A : List Sourced
  A = sourced_of first

  abbrev n : ℕ
  n = count trapezoid_codec first

  length_A : length (sourced_of first) ≡ n
  length_A = length_from sourced_codec n first 0

  pub copied_no_room : (ts : List Sourced) (ns : ℕ → List Stage) → room < count trapezoid_codec first
      → SourcedAs (length d) room ts (addition (length (layer_of first)) ∷ ns (length (layer_of first))) (no_room_after 0) d
  copied_no_room ts ns l = (add_over room (length (layer_of first)) (ns (length (layer_of first))) (omega (arith, l, length_from trapezoid_codec n first 0)), h.blank)

  module _ (fits : count trapezoid_codec first ≤ room) (t : List ℤ) (is : t ≡ take (memory_width * count trapezoid_codec first) first ++ drop (memory_width * count trapezoid_codec first) d) where
    in_words : memory_width * length A ≤ length d
    in_words = omega (arith, length_A, fits, h.wide)

    words : words_of sourced_codec A ≡ take (memory_width * n) first
    words = words_from sourced_codec sourced_faithful n first 0 (omega arith) (all_of (λ (w : ℤ). Unit {0}) (λ w. tt) first)

    laid : t ≡ image sourced_codec (length d) A
    laid =
        is ∙ ap (λ (u : List ℤ). u ++ drop (memory_width * n) d) (sym words)
        ∙ ap (λ (u : List ℤ). words_of sourced_codec A ++ u)
        (ap (drop (memory_width * n)) h.blank ∙ drop_replicate (pos 0) (memory_width * n) (length d) ∙ ap (λ (k : ℕ). replicate (length d - memory_width * k) (pos 0)) (sym length_A))

    pub copied_long : length t ≡ length d
    copied_long = ap length laid ∙ length_image sourced_codec sourced_faithful.readable (length d) A in_words

    copied_standing : standing t n ≡ A
    copied_standing =
        ap (λ (k : ℕ). standing t k) (sym length_A) ∙ ap (λ (u : List ℤ). standing u (length A)) laid
        ∙ image_records sourced_codec sourced_faithful.readable (length d) A (all_of (λ (r : Sourced). Unit {0}) (λ r. tt) A)

    pub copied_holding : Holding t (count trapezoid_codec first) room
    copied_holding = record { is = laid ∙ (λ j. image sourced_codec (sym copied_long j) (sym copied_standing j)); within = fits; wide = omega (arith, copied_long, h.wide) }

    pub copied_folded : (us : List Sourced) (ns : ℕ → List Stage) (r : Result Folded NoRoom) (v : List ℤ) → SourcedAs (length t) room (standing t (count trapezoid_codec first) ++ us) (ns (count trapezoid_codec first)) r v
        → SourcedAs (length d) room (sourced_of first ++ us) (addition (length (layer_of first)) ∷ ns (length (layer_of first))) r v
    copied_folded us ns r v g =
        let a = subst (λ (x : List Sourced). SourcedAs (length t) room (x ++ us) (ns n) r v) copied_standing g in
        let b = subst (λ (x : ℕ). SourcedAs (length t) room (A ++ us) (ns x) r v) (sym m) a in
        go r (subst (λ (x : ℕ). SourcedAs x room (A ++ us) (ns (length (layer_of first))) r v) copied_long b)
      where
        m : length (layer_of first) ≡ n
        m = length_from trapezoid_codec n first 0

        e : space room (addition (length (layer_of first)) ∷ ns (length (layer_of first))) ≡ space room (ns (length (layer_of first)))
        e = add_next room (length (layer_of first)) (ns (length (layer_of first))) (omega (arith, m, fits))

        go : (r : Result Folded NoRoom) → SourcedAs (length d) room (A ++ us) (ns (length (layer_of first))) r v → SourcedAs (length d) room (A ++ us) (addition (length (layer_of first)) ∷ ns (length (layer_of first))) r v
        go (Err q) x = (e ∙ x.0, x.1)
        go (Ok q) x = (e ∙ x.0, x.1)

-- ---- both differences in a row
-- the first layer minus the second, and so many trapezoids
abbrev pub minus_of : List ℤ → List ℤ → List Sourced
minus_of a b = sourced_difference (sourced_of a) (layer_of b)

abbrev stages_after : ℕ → List ℤ → List ℤ → List Stage
stages_after n a b = difference_stages 0 (layer_of a) (layer_of b) ++ difference_stages n (layer_of b) (layer_of a)

-- they are counted without their sets
pub symmetric_counted : (n room : ℕ) (a b : List ℤ) (r : Result Folded NoRoom) (d : List ℤ) → SourcedAs n room (minus_of a b ++ minus_of b a) (stages_after (length (minus_of a b)) a b) r d
    → SourcedAs n room (minus_of a b ++ minus_of b a) (stages_after (length (difference (layer_of a) (layer_of b))) a b) r d
symmetric_counted n room a b r d g = subst (λ (k : ℕ). SourcedAs n room (minus_of a b ++ minus_of b a) (stages_after k a b) r d) (difference-count a (layer_of b)) g

-- the first had no room
pub symmetric_no_room : (room : ℕ) (a b : List ℤ) (n : ℕ) (d : List ℤ) (c : ℕ) → SourcedAs n room (minus_of a b) (difference_stages 0 (layer_of a) (layer_of b)) (no_room_after c) d
    → SourcedAs n room (minus_of a b ++ minus_of b a) (stages_after (length (difference (layer_of a) (layer_of b))) a b) (no_room_after c) d
symmetric_no_room room a b n d c g =
    let A = layer_of a in
    let B = layer_of b in
    (space_no_room room c (difference_stages 0 A B) (difference_stages (length (difference A B)) B A) g.0, g.1)

-- ---- by the code's number
-- a result of two layers' words, the trapezoids without sets read off the words
abbrev pub result_of : Code → List ℤ → List ℤ → List Sourced
result_of union a b = sourced_of a ++ minus_of b a
result_of intersect a b = sourced_intersection (sourced_of a) (sourced_of b)
result_of a_minus_b a b = minus_of a b
result_of b_minus_a a b = minus_of b a
result_of symmetric_difference a b = minus_of a b ++ minus_of b a

result_is : (c : Code) (a b : List ℤ) → result_of c a b ≡ sourced_result c (sourced_of a) (sourced_of b)
result_is union a b = ap (λ (ts : List Trapezoid). sourced_of a ++ sourced_difference (sourced_of b) ts) (sym (shapes_of a))
result_is intersect a b = refl
result_is a_minus_b a b = ap (sourced_difference (sourced_of a)) (sym (shapes_of b))
result_is b_minus_a a b = ap (sourced_difference (sourced_of b)) (sym (shapes_of a))
result_is symmetric_difference a b = let p = sym (shapes_of a) in let q = sym (shapes_of b) in (λ j. sourced_difference (sourced_of a) (q j) ++ sourced_difference (sourced_of b) (p j))

pub result_folded : (c : Code) (n room : ℕ) (a b : List ℤ) (r : Result Folded NoRoom) (d : List ℤ) → SourcedAs n room (result_of c a b) (stages c (layer_of a) (layer_of b)) r d
    → SourcedAs n room (sourced_result c (sourced_of a) (sourced_of b)) (stages c (layer_of a) (layer_of b)) r d
result_folded c n room a b r d g = subst (λ (rs : List Sourced). SourcedAs n room rs (stages c (layer_of a) (layer_of b)) r d) (result_is c a b) g

pub code_folded : (code : ℕ) (c : Code) → code_at code ≡ c → (n room : ℕ) (a b : List ℤ) (r : Result Folded NoRoom) (d : List ℤ)
    → SourcedAs n room (sourced_result c (sourced_of a) (sourced_of b)) (stages c (layer_of a) (layer_of b)) r d
    → SourcedAs n room (sourced_result (code_at code) (sourced_of a) (sourced_of b)) (stages (code_at code) (layer_of a) (layer_of b)) r d
code_folded code c e n room a b r d g = subst (λ (x : Code). SourcedAs n room (sourced_result x (sourced_of a) (sourced_of b)) (stages x (layer_of a) (layer_of b)) r d) (sym e) g
