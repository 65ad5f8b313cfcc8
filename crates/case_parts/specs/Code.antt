-- What the programs of cases put into a file, and into words.
use Rattle.std.specs.Prelude.{◌≡◌, cond, List, [], ◌∷◌, ℕ, zero, suc, ◌+◌, ◌*◌, ◌-◌, ◌/◌, ◌%◌, ◌<◌, ◌≤◌, ltb, ℤ, pos, length, get_or}
use Rattle.records.specs.Records.{put_record}
use Rattle.records.specs.Words.{word_codec}

-- a file's bytes with word number i, if it has so many, set to x
abbrev pub with_word : List ℕ → ℕ → ℤ → List ℕ
with_word file i x = cond (ltb i (length file / 4)) (put_record word_codec file i x) file

-- the same with a number below 65,536
abbrev pub with_number : List ℕ → ℕ → ℕ → List ℕ
with_number file i n = cond (ltb n 65536) (with_word file i (pos n)) file

-- ---- staircases
-- vertex number j of a staircase: eight steps down to the right, and eight down to the left above them
abbrev pub stair_x : ℕ → ℕ
stair_x j = cond (ltb j 16) (2 * ((j + 1) / 2)) (2 * ((32 - j) / 2))

abbrev pub stair_y : ℕ → ℕ
stair_y j = cond (ltb j 16) (8 - j / 2) (32 - j / 2)

-- the first n vertices of staircases, 32 each, from word number `start` of a file on
unfoldable pub with_stairs : ℕ → ℕ → List ℕ → List ℕ
with_stairs zero start file = file
with_stairs (suc n) start file = with_number (with_number (with_stairs n start file) (start + 2 * n) (stair_x (n % 32))) (start + 2 * n + 1) (stair_y (n % 32))

-- the pairs of n polygons with 32 vertices
unfoldable pub with_pairs : ℕ → List ℕ → List ℕ
with_pairs zero file = file
with_pairs (suc n) file = with_number (with_number (with_pairs n file) (2 * n + 1) (32 * n)) (2 * n + 2) 32

-- ---- squares
-- the words of square number k with this set: its left lower corner is (x, y), and its side is 2
abbrev square_at : ℕ → ℕ → ℤ → List ℤ
square_at x y sources =
    pos 0 ∷ pos 0 ∷ pos 1 ∷ pos 0 ∷ pos x ∷ pos 0 ∷ pos (x + 1) ∷ pos 1
    ∷ pos 0 ∷ pos 0 ∷ pos 1 ∷ pos 0 ∷ pos (x + 2) ∷ pos 0 ∷ pos (x + 3) ∷ pos 1
    ∷ pos x ∷ pos y ∷ pos (x + 2) ∷ pos y ∷ pos x ∷ pos (y + 2) ∷ pos (x + 2) ∷ pos (y + 2) ∷ sources ∷ []

unfoldable pub square : ℕ → ℤ → List ℤ
square k sources = square_at (4 * (k % 32)) (4 * (k / 32 % 32)) sources

-- words with squares of `width` words, from number 0 on, from word number `start` on to the end
pub record Squares (start width : ℕ) (sources : ℤ) (old new : List ℤ) : Type 0 where
  pub kept : (i : ℕ) → i < start → get_or new i (pos 0) ≡ get_or old i (pos 0)
  pub filled : (i : ℕ) → start ≤ i → i < length old → get_or new i (pos 0) ≡ get_or (square ((i - start) / width) sources) ((i - start) % width) (pos 0)
