-- "Word 0 is the count N. N pairs of offset and length follow, sorted by offset, then the body." The numbers of a directory, and the length of a pair where it is
-- left out.
use Rattle.std.specs.Prelude.{Bool, true, false, cond, List, ℕ, zero, suc, ◌+◌, ◌*◌, ◌/◌, ltb, ℤ, pos, negsuc, length, drop, Option, Some, None}
use Rattle.integer.specs.Integer.{◌⊖◌}
use Rattle.files.specs.declared.Format.{Format}
use Rattle.files.specs.Formats.{word_at}

-- ---- the number of a word
abbrev pub natural_of : ℤ → Option ℕ
natural_of (pos n) = Some n
natural_of (negsuc n) = None

-- 0 for a negative one, which rows 5 and 6 refuse
abbrev pub amount : Option ℕ → ℕ
amount (Some n) = n
amount None = 0

abbrev pub amount_of : ℤ → ℕ
amount_of z = amount (natural_of z)

-- ---- the pairs, the words past them, and the offset of pair number i
abbrev pub count_in : List ℤ → ℕ
count_in ws = amount_of (word_at ws 0)

abbrev pub body_of : List ℤ → List ℤ
body_of ws = drop (2 * count_in ws + 1) ws

abbrev pub offset_at : List ℤ → ℕ → ℕ
offset_at ws i = amount_of (word_at ws (2 * i + 1))

-- ---- the length of pair number i
-- "length 0, meaning that the polygon runs to the next offset, or to the end of the body": that offset, or the units of the body; "A last half vertex counts
-- for no length"
unfoldable pub next_offset : Format → List ℤ → ℕ → ℤ
next_offset f ws i = cond (ltb (i + 1) (count_in ws)) (word_at ws (2 * (i + 1) + 1)) (pos (length (body_of ws) / f.unit))

-- "The length so found": any whole number, as the two words are any
abbrev pub found_length : Format → List ℤ → ℕ → ℤ
found_length f ws i = next_offset f ws i ⊖ word_at ws (2 * i + 1)

-- a length as it is written, or the one that is found where a format has 0 for it
abbrev pub or_found : Bool → ℤ → ℤ → ℤ
or_found false z found = z
or_found true (pos zero) found = found
or_found true (pos (suc n)) found = pos (suc n)
or_found true (negsuc n) found = negsuc n

unfoldable pub length_read : Format → List ℤ → ℕ → ℤ
length_read f ws i = or_found f.found (word_at ws (2 * i + 2)) (found_length f ws i)

abbrev pub length_at : Format → List ℤ → ℕ → ℕ
length_at f ws i = amount_of (length_read f ws i)
