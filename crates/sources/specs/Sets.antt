-- "a set of bits for source layers 0 to 31": a word of memory, read as a mask. Every word is a set; bit 31 makes it negative.
use Rattle.std.specs.Prelude.{Bool, ℕ, ◌/◌, ◌%◌, ◌^◌, eqb, ltb, ℤ, pos}
use Rattle.std.specs.Int.Bits.{bit_or}
use Rattle.records.specs.Words.{signed, pattern}

-- how many source layers there are
abbrev pub source_layers : ℕ
source_layers = 32

-- row 14: "layer number not 0 to 31"
abbrev pub is_source_layer : ℕ → Bool
is_source_layer k = ltb k source_layers

-- a word's mask, below 2³²
unfoldable pub mask : ℤ → ℕ
mask z = pattern z % 4294967296

-- layer k is in the set
unfoldable pub has : ℕ → ℤ → Bool
has k z = eqb (mask z / 2 ^ k % 2) 1

-- "a read piece has an empty set"
abbrev pub empty : ℤ
empty = pos 0

-- "Cutting takes a layer number and sets that bit."
unfoldable pub single : ℕ → ℤ
single k = signed (2 ^ k)

-- "both sets joined bit by bit"
unfoldable pub joined : ℤ → ℤ → ℤ
joined y z = signed (bit_or (mask y) (mask z))
