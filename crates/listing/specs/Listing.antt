-- The text that the lister prints, in ASCII codes: 10 ends a line, 32 is a blank, 45 the minus sign, 48 the digit 0.
use Rattle.std.specs.Prelude.{◌≡◌, true, false, List, [], ◌∷◌, ◌++◌, ℕ, zero, suc, ◌+◌, ◌*◌, ◌/◌, ◌%◌, ◌≤◌, ltb, ℤ, pos, negsuc, length, get_or, take, drop}
use Rattle.std.proofs.Math.Seq.{slice}
use Rattle.records.specs.Limits.{file_width, memory_width, max_records}
use Rattle.geometry.specs.declared.Trapezoid.{Trapezoid}
use Rattle.geometry.specs.Trapezoids.{trapezoid_words}

-- ---- numbers in decimal
-- the digits of n, the last k of them where it has more
unfoldable pub digits : ℕ → ℕ → List ℕ
digits zero n = []
digits (suc k) n = elim (ltb n 10) [ true ↦ (48 + n) ∷ [] | false ↦ digits k (n / 10) ++ ((48 + n % 10) ∷ []) ]

-- a number n has at most n + 1 digits
unfoldable pub decimal : ℕ → List ℕ
decimal n = digits (suc n) n

unfoldable pub decimal_word : ℤ → List ℕ
decimal_word (pos n) = decimal n
decimal_word (negsuc n) = 45 ∷ decimal (suc n)

-- ---- lines
-- what follows a word of a line: a blank, and past the last word the line's end
abbrev pub separator : List ℤ → ℕ
separator [] = 10
separator (w ∷ ws) = 32

-- "its 24 words, in decimal with single blanks between"
unfoldable pub words_line : List ℤ → List ℕ
words_line [] = []
words_line (w ∷ ws) = decimal_word w ++ (separator ws ∷ words_line ws)

-- word number j of a line that ends before number `end`, and what follows it
unfoldable pub field : List ℤ → ℕ → ℕ → List ℕ
field s j end = decimal_word (get_or s j (pos 0)) ++ (separator (slice (j + 1) end s) ∷ [])

-- `pieces `, `refused ` and ` place `
abbrev pub pieces_text : List ℕ
pieces_text = 112 ∷ 105 ∷ 101 ∷ 99 ∷ 101 ∷ 115 ∷ 32 ∷ []

abbrev pub refused_text : List ℕ
refused_text = 114 ∷ 101 ∷ 102 ∷ 117 ∷ 115 ∷ 101 ∷ 100 ∷ 32 ∷ []

abbrev pub place_text : List ℕ
place_text = 32 ∷ 112 ∷ 108 ∷ 97 ∷ 99 ∷ 101 ∷ 32 ∷ []

-- a text, and a number after it
unfoldable pub numbered : List ℕ → ℕ → List ℕ
numbered text n = text ++ decimal n

-- `pieces N`
abbrev pub head_line : ℕ → List ℕ
head_line n = numbered pieces_text n ++ (10 ∷ [])

-- the line of record number i: "Book files and the lister keep 24 words."
abbrev pub record_line : List ℤ → ℕ → List ℕ
record_line s i = words_line (slice (memory_width * i) (memory_width * i + file_width) s)

-- a line for each of n records, from number i on
unfoldable pub lines_from : ℕ → List ℤ → ℕ → List ℕ
lines_from zero s i = []
lines_from (suc n) s i = record_line s i ++ lines_from n s (i + 1)

-- "the number of pieces, then a line for each piece", of the first n records of a layer's words
unfoldable pub listing : ℕ → List ℤ → List ℕ
listing n s = head_line n ++ lines_from n s 0

-- "Refused, it prints one line: `refused`, number, `place`, place."
abbrev pub refusal_line : ℕ → ℕ → List ℕ
refusal_line number place = numbered refused_text number ++ (numbered place_text place ++ (10 ∷ []))

-- ---- the same of a list of trapezoids (paper 01: pieces)
unfoldable pub trapezoid_lines : List Trapezoid → List ℕ
trapezoid_lines [] = []
trapezoid_lines (t ∷ ts) = words_line (trapezoid_words t) ++ trapezoid_lines ts

unfoldable pub layer_listing : List Trapezoid → List ℕ
layer_listing ts = head_line (length ts) ++ trapezoid_lines ts

-- ---- a text written into a buffer
-- d with a text from number `at` on
unfoldable pub with_text : List ℕ → ℕ → List ℕ → List ℕ
with_text d at text = take at d ++ (text ++ drop (at + length text) d)

-- it fits there
abbrev pub Room : List ℕ → ℕ → List ℕ → Type 0
Room d at text = at + length text ≤ length d

-- a function that puts a text into d from number `at` on leaves e, and answers where the text ends
abbrev pub Wrote : List ℕ → ℕ → List ℕ → ℕ → List ℕ → Type 0
Wrote d at text r e = (r ≡ at + length text) × (e ≡ with_text d at text)

-- the bytes that are enough for a word and what follows it ("-2147483648" is 11 bytes), for the first line, for a record's line,
-- for a listing of 512 records, and for a refusal's line
abbrev pub field_room : ℕ
field_room = 12

abbrev pub head_room : ℕ
head_room = 12

abbrev pub line_room : ℕ
line_room = field_room * file_width

abbrev pub listing_room : ℕ
listing_room = head_room + line_room * max_records

abbrev pub refusal_room : ℕ
refusal_room = 46
