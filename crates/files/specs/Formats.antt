-- The sizes of files, and the two formats: how a directory and the body past it may be.
use Rattle.std.specs.Prelude.{Bool, true, false, ◌&&◌, List, ℕ, ◌%◌, ◌<◌, ◌≤◌, leb, eqb, ℤ, pos, get_or}
use Rattle.records.specs.Limits.{memory_width, file_width, max_records}
use Rattle.records.specs.Records.{records}
use Rattle.records.specs.Words.{word_codec}
use Rattle.files.specs.declared.Format.{Format}
use Rattle.files.specs.declared.Edition.{Edition}
use Rattle.files.specs.declared.Edition.TheVariants.{First, New}

-- row 4 lets a file of n bytes pass: "bytes not a multiple of 4, under 4 or over 65,532"
unfoldable pub file_sized : ℕ → Bool
file_sized n = eqb (n % 4) 0 && (leb 4 n && leb n 65532)

-- "Files are signed 32-bit words, low byte first."
abbrev pub file_words : List ℕ → List ℤ
file_words bytes = records word_codec bytes

-- word number i
abbrev pub word_at : List ℤ → ℕ → ℤ
word_at ws i = get_or ws i (pos 0)

-- "Sheets of the new exchange edition may carry length 0"
abbrev pub leaves_out : Edition → Bool
leaves_out First = false
leaves_out New = true

-- A format: the words of a unit, the most pairs, the least and the most units of a pair, the most units in all, and whether a length 0 stands for the length found from the next offset.
-- "A sheet has 0 to 64 polygons of 3 to 32 vertices." Its unit is "a vertex (x, y)", and the total excludes nothing.
abbrev pub polygon_file : Edition → Format
polygon_file edition = record { unit = 2; count = 64; least = 3; most = 32; total = 2048; found = leaves_out edition }

-- "A book has 0 to 16 layers of 0 to 512 pieces, at most 512 in all." Its unit is a trapezoid of so many words, and length 0 is an empty layer's.
abbrev pub layers_in : ℕ → Format
layers_in width = record { unit = width; count = 16; least = 0; most = max_records; total = max_records; found = false }

-- "Book files and the lister keep 24 words."
abbrev pub layer_file : Format
layer_file = layers_in file_width

-- "In the words that a book reader writes and a writer takes, each piece has 25"
abbrev pub layer_words : Format
layer_words = layers_in memory_width

-- a format whose numbers are small enough for the functions
pub record Modest (f : Format) : Type 0 where
  pub some : 0 < f.unit
  pub unit : f.unit ≤ 64
  pub count : f.count ≤ 64
  pub total : f.total ≤ 2048
