-- Trapezoids as records: they are read back, line by line, and their words lose nothing.
use mathlib.Core.Path.{◌≡◌, refl, sym, ap, ◌∙◌}
use mathlib.Core.List.{List, [], ◌∷◌}
use Prim.Native.Nat.{ℕ, zero, suc, ◌+◌, ◌*◌, ◌≤◌}
use native.Mathlib.Nat.{add_assoc}
use native.Mathlib.Omega.{arith}
use lib.IntN.{ℤ, pos}
use lib.ListN.{length, get_or, take, drop, drop_of_length-le}
use lib.Seq.{get_or-take, get_or-drop, drop-cons}
use Rattle.records.specs.Limits.{memory_width, file_width}
use Rattle.records.specs.Records.{Readable, record_at}
use Rattle.geometry.specs.declared.Trapezoid.{Trapezoid}
use Rattle.geometry.specs.Trapezoids.{line_at, trapezoid_of, trapezoid_words, trapezoid_codec}

-- in records of w words, at least 24
module _ (w : ℕ) (wide : file_width ≤ w) (s : List ℤ) (a : ℕ) where
  word_at : (k : ℕ) → k + 1 ≤ file_width → get_or (take w (drop a s)) k (pos 0) ≡ get_or s (a + k) (pos 0)
  word_at k h = get_or-take w (drop a s) k (pos 0) (omega arith) ∙ get_or-drop a s k (pos 0)

  line_at_lem : (k : ℕ) → k + 4 ≤ file_width → line_at (take w (drop a s)) k ≡ line_at s (a + k)
  line_at_lem k h =
      let w₀ = word_at k (omega arith) in
      let w₁ = word_at (k + 1) (omega arith) ∙ ap (λ (n : ℕ). get_or s n (pos 0)) (sym (add_assoc a k 1)) in
      let w₂ = word_at (k + 2) (omega arith) ∙ ap (λ (n : ℕ). get_or s n (pos 0)) (sym (add_assoc a k 2)) in
      let w₃ = word_at (k + 3) (omega arith) ∙ ap (λ (n : ℕ). get_or s n (pos 0)) (sym (add_assoc a k 3)) in
      λ j. record { x1 = w₀ j; y1 = w₁ j; x2 = w₂ j; y2 = w₃ j }

  first_line : line_at (take w (drop a s)) 0 ≡ line_at s a
  first_line = let e : a + 0 ≡ a = omega arith in line_at_lem 0 (omega arith) ∙ ap (line_at s) e

-- the trapezoid whose words start at a place, by its lines' places
abbrev pub placed_at : List ℤ → ℕ → Trapezoid
placed_at s a =
    record {
      left = record { first = line_at s a; second = line_at s (a + 4) };
      right = record { first = line_at s (a + 8); second = line_at s (a + 12) };
      bottom = line_at s (a + 16);
      top = line_at s (a + 20);
    }

pub trapezoid_in : (w : ℕ) → file_width ≤ w → (s : List ℤ) (a : ℕ) → trapezoid_of (take w (drop a s)) ≡ placed_at s a
unfolding trapezoid_of
trapezoid_in w h s a =
    let l₀ = first_line w h s a in
    let l₁ = line_at_lem w h s a 4 (omega arith) in
    let l₂ = line_at_lem w h s a 8 (omega arith) in
    let l₃ = line_at_lem w h s a 12 (omega arith) in
    let l₄ = line_at_lem w h s a 16 (omega arith) in
    let l₅ = line_at_lem w h s a 20 (omega arith) in
    λ j. record { left = record { first = l₀ j; second = l₁ j }; right = record { first = l₂ j; second = l₃ j }; bottom = l₄ j; top = l₅ j }

pub trapezoid-at : (s : List ℤ) (i : ℕ) → record_at trapezoid_codec s i ≡ placed_at s (memory_width * i)
unfolding record_at
trapezoid-at s i = trapezoid_in memory_width (omega arith) s (memory_width * i)

-- n words of a list from number k on, one by one
abbrev pub spelled : ℕ → ℕ → List ℤ → List ℤ
spelled zero k r = []
spelled (suc n) k r = get_or r k (pos 0) ∷ spelled n (suc k) r

pub spell : (n k : ℕ) (r : List ℤ) → k + n ≡ length r → spelled n k r ≡ drop k r
spell zero k r h = sym (drop_of_length-le r {i = k} (omega arith))
spell (suc n) k r h = ap (λ (t : List ℤ). get_or r k (pos 0) ∷ t) (spell n (suc k) r (omega arith)) ∙ sym (drop-cons r k (pos 0) (omega arith))

-- of every 24 words
pub words_back : (r : List ℤ) → length r ≡ file_width → trapezoid_words (trapezoid_of r) ≡ r
unfolding trapezoid_words trapezoid_of
words_back r h = spell file_width 0 r (omega (arith, h))

-- every trapezoid
pub trapezoid_readable : Readable trapezoid_codec (λ (t : Trapezoid). Unit {0})
unfolding trapezoid_words trapezoid_of
trapezoid_readable = record { some = omega arith; encode_length = λ t. refl; decode_encode = λ t g. refl }
