-- Rows 5 and 6: the count and the pairs of a directory.
use Rattle.std.specs.Prelude.{◌≡◌, Bool, true, false, ◌&&◌, List, ℕ, zero, suc, ◌+◌, ◌*◌, leb, eqb, ℤ, length, Option, Some, None, Result, Ok, Err}
use Rattle.files.specs.declared.Format.{Format}
use Rattle.files.specs.Formats.{word_at}
use Rattle.files.specs.Pairs.{natural_of, length_read}
use Rattle.geometry.specs.declared.Refusal.{Refusal}
use Rattle.files.specs.declared.Directory.{Directory}

-- ---- what a check of a directory answers: the refusal's number and place, or the pairs and the units of the body
abbrev pub wrong_by : ℕ → ℕ → Result Directory Refusal
wrong_by number place = Err (record { number = number; place = place })

abbrev pub right_with : ℕ → ℕ → Result Directory Refusal
right_with count total = Ok (record { count = count; total = total })

-- ---- the number of a word in a range
abbrev pub only : Bool → ℕ → Option ℕ
only true n = Some n
only false n = None

abbrev pub between : ℕ → ℕ → Option ℕ → Option ℕ
between least most (Some n) = only (leb least n && leb n most) n
between least most None = None

-- the number of a word that is from least to most
unfoldable pub number_from : ℕ → ℕ → ℤ → Option ℕ
number_from least most z = between least most (natural_of z)

-- ---- row 5: "N missing or out of range, or pairs incomplete"
-- N pairs are complete, and N itself is there, if there are 1 + 2N words
abbrev pub complete : Option ℕ → ℕ → Option ℕ
complete (Some n) words = only (leb (2 * n + 1) words) n
complete None words = None

unfoldable pub count_of : Format → List ℤ → Option ℕ
count_of f ws = complete (number_from 0 f.count (word_at ws 0)) (length ws)

-- ---- row 6: "wrong offset or length, or book total so far above 512; file end not met"
-- the length of a pair with so many units before it: "The first offset is 0, each next offset is the previous offset plus length"
abbrev pub length_by : Format → ℕ → Option ℕ → Option ℕ → Option ℕ
length_by f before (Some offset) (Some n) = only (leb (before + n) f.total) n
length_by f before (Some offset) None = None
length_by f before None n = None

unfoldable pub pair_length : Format → ℕ → ℤ → ℤ → Option ℕ
pair_length f before offset n = length_by f before (number_from before before offset) (number_from f.least f.most n)

-- "the last pair ends at the end of the file"
abbrev pub at_end : Bool → ℕ → ℕ → Result Directory Refusal
at_end true n total = right_with n total
at_end false n total = wrong_by 6 n

unfoldable pub end_of : Format → ℕ → ℕ → ℕ → Result Directory Refusal
end_of f n total words = at_end (eqb (2 * n + 1 + f.unit * total) words) n total

abbrev pub after_pair : Option ℕ → ℕ → (ℕ → Result Directory Refusal) → Result Directory Refusal
after_pair (Some n) i rest = rest n
after_pair None i rest = wrong_by 6 i

-- n pairs from number i on, with so many units before them: the lowest place that is wrong, or the pairs and the units in all
unfoldable pub pairs_from : Format → List ℤ → ℕ → ℕ → ℕ → Result Directory Refusal
pairs_from f ws zero i before = end_of f i before (length ws)
pairs_from f ws (suc n) i before = after_pair (pair_length f before (word_at ws (2 * i + 1)) (length_read f ws i)) i (λ (k : ℕ). pairs_from f ws n (i + 1) (before + k))

-- ---- the rows 5 and 6
abbrev pub directory_by : Format → List ℤ → Option ℕ → Result Directory Refusal
directory_by f ws (Some n) = pairs_from f ws n 0 0
directory_by f ws None = wrong_by 5 0

unfoldable pub directory_of : Format → List ℤ → Result Directory Refusal
directory_of f ws = directory_by f ws (count_of f ws)

-- rows 5 and 6 let n pairs pass: exactly if the directory has the paper's form (Form.antt)
pub record HasPairs (f : Format) (ws : List ℤ) (n : ℕ) : Type 0 where
  pub total : ℕ
  pub is : directory_of f ws ≡ right_with n total
