-- How long the texts can be.
use mathlib.Core.Path.{◌≡◌}
use mathlib.Core.List.{List, [], ◌∷◌, ◌++◌}
use Prim.Native.Nat.{ℕ, suc, ◌+◌, ◌<◌, ◌≤◌}
use native.Mathlib.Omega.{arith}
use lib.IntN.{ℤ, pos, negsuc}
use lib.Signed.{mag}
use lib.ListN.{length, get_or, length-append}
use lib.Seq.{slice}
use Rattle.records.specs.Limits.{max_records}
use Rattle.listing.specs.Listing.{decimal, decimal_word, separator, field, numbered, pieces_text, refused_text, place_text, head_line, refusal_line, field_room, head_room, refusal_room}
use Rattle.listing.proofs.Decimal.{length_most}

-- "-2147483648"
pub word_length : (a : ℤ) → mag a < 2147483648 → length (decimal_word a) ≤ 11
unfolding decimal_word
word_length (pos n) l = omega (arith, length_most 9 n (omega arith))
word_length (negsuc n) l = omega (arith, length_most 9 (suc n) (omega arith))

pub field-length : (s : List ℤ) (j end : ℕ) → mag (get_or s j (pos 0)) < 2147483648 → length (field s j end) ≤ field_room
unfolding field
field-length s j end l =
    omega (arith, word_length (get_or s j (pos 0)) l, length-append (decimal_word (get_or s j (pos 0))) (separator (slice (j + 1) end s) ∷ []))

numbered-length : (t : List ℕ) (n : ℕ) → length (numbered t n) ≡ length t + length (decimal n)
unfolding numbered
numbered-length t n = length-append t (decimal n)

pub head_length : (n : ℕ) → n ≤ max_records → length (head_line n) ≤ head_room
head_length n l = omega (arith, length-append (numbered pieces_text n) (10 ∷ []), numbered-length pieces_text n, length_most 2 n (omega arith))

pub refusal-length : (number place : ℕ) → number < 4294967296 → place < 18446744073709551616 → length (refusal_line number place) ≤ refusal_room
refusal-length number place k l =
    omega (arith, length-append (numbered refused_text number) (numbered place_text place ++ (10 ∷ [])), length-append (numbered place_text place) (10 ∷ []), numbered-length refused_text number, numbered-length place_text place, length_most 9 number (omega arith), length_most 19 place (omega arith))
