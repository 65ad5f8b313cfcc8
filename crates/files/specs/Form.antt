-- The form of a directory in the paper's words: the meaning of the rows 5 and 6 that `directory_of` computes.
-- "Word 0 is the count N. N pairs of offset and length follow, sorted by offset, then the body. .. The first offset is 0, each next offset is the previous
-- offset plus length, and the last pair ends at the end of the file."
use Rattle.std.specs.Prelude.{◌≡◌, List, ◌↔◌, ◌⊎◌, ℕ, zero, suc, ◌+◌, ◌*◌, ◌<◌, ◌≤◌, ℤ, pos, length}
use Rattle.files.specs.declared.Format.{Format}
use Rattle.files.specs.Formats.{word_at}
use Rattle.files.specs.Directory.{directory_of, HasPairs, wrong_by}
use Rattle.files.specs.Pairs.{offset_at, length_read, length_at}

-- ---- the meanings
-- row 5 finds nothing, and the count is n: "N missing or out of range, or pairs incomplete"
pub record CountRight (f : Format) (ws : List ℤ) (n : ℕ) : Type 0 where
  -- "Word 0 is the count N"
  pub is : word_at ws 0 ≡ pos n
  -- it is in range
  pub most : n ≤ f.count
  -- word 0 and the n pairs are there
  pub complete : 2 * n + 1 ≤ length ws

-- where the pairs before number i end: 0 before the first, else the previous offset plus length
abbrev pub end_before : Format → List ℤ → ℕ → ℕ
end_before f ws zero = 0
end_before f ws (suc i) = offset_at ws i + length_at f ws i

-- row 6 finds nothing in pair number i: "wrong offset or length, or book total so far above 512"
pub record PairRight (f : Format) (ws : List ℤ) (i : ℕ) : Type 0 where
  -- "The first offset is 0, each next offset is the previous offset plus length"
  pub offset : word_at ws (2 * i + 1) ≡ pos (end_before f ws i)
  -- its length, found where it is left out, is not negative, and in range
  pub size : length_read f ws i ≡ pos (length_at f ws i)
  pub least : f.least ≤ length_at f ws i
  pub most : length_at f ws i ≤ f.most
  -- the "total so far" is not above the format's
  pub total : end_before f ws i + length_at f ws i ≤ f.total

-- "the last pair ends at the end of the file", which with no pair is past the count
abbrev pub EndMet : Format → List ℤ → ℕ → Type 0
EndMet f ws n = 2 * n + 1 + f.unit * end_before f ws n ≡ length ws

-- the whole directory is right, with n pairs
pub record HasForm (f : Format) (ws : List ℤ) (n : ℕ) : Type 0 where
  pub count : CountRight f ws n
  pub pairs : (i : ℕ) → i < n → PairRight f ws i
  pub end : EndMet f ws n

-- row 6 at place i, the lowest that is wrong: "pair; N for the end"
pub record WrongAt (f : Format) (ws : List ℤ) (i : ℕ) : Type 0 where
  pub pairs : ℕ
  pub count : CountRight f ws pairs
  -- nothing lower is wrong
  pub earlier : (j : ℕ) → j < i → PairRight f ws j
  -- but pair number i is, or past the last pair the end is not met
  pub here : ((i < pairs) × (PairRight f ws i → ⊥)) ⊎ ((i ≡ pairs) × (EndMet f ws pairs → ⊥))

-- ---- the test says what they mean, for every format and all words (proved in proofs/Form.antt under the names in lower case)
-- n pairs pass exactly if the directory has the form
abbrev pub DirectoryExact : Type 0
DirectoryExact = (f : Format) (ws : List ℤ) (n : ℕ) → HasPairs f ws n ↔ HasForm f ws n

-- 5 is answered exactly if no count is right
abbrev pub CountRefused : Type 0
CountRefused = (f : Format) (ws : List ℤ) → (directory_of f ws ≡ wrong_by 5 0) ↔ ((n : ℕ) → CountRight f ws n → ⊥)

-- 6 is answered with the lowest place that is wrong
abbrev pub PairPlaceExact : Type 0
PairPlaceExact = (f : Format) (ws : List ℤ) (i : ℕ) → (directory_of f ws ≡ wrong_by 6 i) ↔ WrongAt f ws i

-- and there is no other refusal
abbrev pub OnlyFiveAndSix : Type 0
OnlyFiveAndSix = (f : Format) (ws : List ℤ) (number place : ℕ) → directory_of f ws ≡ wrong_by number place → ((number ≡ 5) × (place ≡ 0)) ⊎ (number ≡ 6)
