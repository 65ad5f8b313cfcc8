-- The listing of a layer's words is that of its trapezoids.
use mathlib.Core.Path.{◌≡◌, refl, sym, ap, ◌∙◌}
use mathlib.Core.List.{List, ◌∷◌, ◌++◌}
use Prim.Native.Nat.{ℕ, zero, suc, ◌+◌, ◌*◌, ◌≤◌}
use native.Mathlib.Omega.{arith}
use lib.IntN.{ℤ, pos}
use lib.ListN.{length, get_or, take, drop, length-drop}
use lib.Seq.{slice, length-take-le, take-take, drop-cons}
use Rattle.lists.proofs.Parts.{slice_take}
use Rattle.records.specs.Limits.{file_width, memory_width}
use Rattle.records.specs.Records.{record_at, records_from}
use Rattle.records.proofs.Records.{length_from}
use Rattle.geometry.specs.Trapezoids.{trapezoid_of, trapezoid_codec, trapezoid_words}
use Rattle.geometry.proofs.Trapezoids.{spelled}
use Rattle.listing.specs.Listing.{words_line, lines_from, head_line, listing, trapezoid_lines, layer_listing}
use Rattle.listing.specs.Statements.{LayerListed}

-- n words of a list from number k on
spell_part : (n k : ℕ) (r : List ℤ) → k + n ≤ length r → spelled n k r ≡ take n (drop k r)
spell_part zero k r h = refl
spell_part (suc n) k r h =
    ap (λ (t : List ℤ). get_or r k (pos 0) ∷ t) (spell_part n (suc k) r (omega arith)) ∙ ap (take (suc n)) (sym (drop-cons r k (pos 0) (omega arith)))

record_words : (s : List ℤ) (i : ℕ) → memory_width * i + memory_width ≤ length s → slice (memory_width * i) (memory_width * i + file_width) s ≡ trapezoid_words (record_at trapezoid_codec s i)
unfolding record_at trapezoid_of trapezoid_words
record_words s i l =
    let f : ℕ = memory_width * i in
    let r : List ℤ = take memory_width (drop f s) in
    let n : length r ≡ memory_width = length-take-le memory_width (drop f s) (omega (arith, length-drop f s)) in
    slice_take s f file_width (omega arith) ∙ sym (take-take file_width memory_width (drop f s) (omega arith)) ∙ sym (spell_part file_width 0 r (omega (arith, n)))

lines_listed : (n : ℕ) (s : List ℤ) (i : ℕ) → memory_width * (i + n) ≤ length s → lines_from n s i ≡ trapezoid_lines (records_from trapezoid_codec n s i)
unfolding lines_from trapezoid_lines records_from
lines_listed zero s i l = refl
lines_listed (suc n) s i l =
    ap (λ (t : List ℕ). t ++ lines_from n s (i + 1)) (ap words_line (record_words s i (omega arith)))
    ∙ ap (λ (t : List ℕ). words_line (trapezoid_words (record_at trapezoid_codec s i)) ++ t) (lines_listed n s (i + 1) (omega arith))

pub layer-listed : LayerListed
unfolding listing layer_listing
layer-listed n s l =
    ap (λ (t : List ℕ). head_line n ++ t) (lines_listed n s 0 (omega arith))
    ∙ ap (λ (k : ℕ). head_line k ++ trapezoid_lines (records_from trapezoid_codec n s 0)) (sym (length_from trapezoid_codec n s 0))
