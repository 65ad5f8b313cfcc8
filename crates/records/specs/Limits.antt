-- The sizes that a layer keeps to.
use Rattle.std.specs.Prelude.{Bool, ◌&&◌, ℕ, ◌+◌, ◌*◌, ◌%◌, leb, eqb}

-- words of a trapezoid (paper 01: piece) in a layer file (paper 01: book): "Book files and the lister keep 24 words."
abbrev pub file_width : ℕ
file_width = 24

-- and in memory: "Each piece in memory gets a 25th word, a set of bits for source layers 0 to 31."
abbrev pub memory_width : ℕ
memory_width = file_width + 1

-- "A layer is a list of 0 to 512 pieces."
abbrev pub max_records : ℕ
max_records = 512

-- the words of such a layer: "multiples of 25 words, at most 12,800"
abbrev pub max_words : ℕ
max_words = memory_width * max_records

-- row 1 of the table lets a layer, an output or a scratch area (paper 01: work area) of n words pass
unfoldable pub sized : ℕ → Bool
sized n = eqb (n % memory_width) 0 && leb n max_words
