-- What the words of a file hold: lists of units, one list for each pair.
use Rattle.std.specs.Prelude.{List, [], ◌∷◌, ◌++◌, map, ℕ, zero, suc, ◌+◌, ◌*◌, ◌≤◌, ℤ, pos, length, take, drop, get_or}
use Rattle.lists.specs.Lists.{cut, joined}
use Rattle.records.specs.Limits.{memory_width, file_width}
use Rattle.records.specs.Records.{Codec, records_from, records, words_of}
use Rattle.geometry.specs.declared.Trapezoid.{Trapezoid}
use Rattle.geometry.specs.Trapezoids.{trapezoid_words, trapezoid_of, trapezoid_codec}
use Rattle.geometry.specs.declared.Vertex.{Vertex}
use Rattle.sources.specs.Sets.{empty}
use Rattle.sources.specs.Sourced.{Sourced, sourced_codec, bearing}
use Rattle.files.specs.declared.Format.{Format}
use Rattle.files.specs.declared.Edition.{Edition}
use Rattle.files.specs.Formats.{polygon_file, layer_file, layer_words}
use Rattle.files.specs.Pairs.{count_in, body_of, offset_at, length_at}

-- the lengths of n pairs from number i on
unfoldable pub lengths_from : Format → List ℤ → ℕ → ℕ → List ℕ
lengths_from f ws zero i = []
lengths_from f ws (suc n) i = length_at f ws i ∷ lengths_from f ws n (i + 1)

abbrev pub lengths_of : Format → List ℤ → List ℕ
lengths_of f ws = lengths_from f ws (count_in ws) 0

-- the units of the body, and the lists that the lengths cut them into
abbrev pub units_of : {A : Type 0} → Codec ℤ A → List ℤ → List A
units_of C ws = records C (body_of ws)

abbrev pub lists_of : {A : Type 0} → Format → Codec ℤ A → List ℤ → List (List A)
lists_of f C ws = cut (lengths_of f ws) (units_of C ws)

-- the lists by offset and length, n of them from number i on: "Offset and length count units from the start of the body"
unfoldable pub lists_from : {A : Type 0} → Format → Codec ℤ A → List ℤ → ℕ → ℕ → List (List A)
lists_from f C ws zero i = []
lists_from f C ws (suc n) i = records_from C (length_at f ws i) (body_of ws) (offset_at ws i) ∷ lists_from f C ws n (i + 1)

-- pair number i lies in the body
pub record PairAt (f : Format) (ws : List ℤ) (i : ℕ) : Type 0 where
  pub least : f.least ≤ length_at f ws i
  pub most : length_at f ws i ≤ f.most
  pub small : offset_at ws i + length_at f ws i ≤ f.total
  pub inside : f.unit * (offset_at ws i + length_at f ws i) ≤ length (body_of ws)

-- ---- units
unfoldable pub vertex_of : List ℤ → Vertex
vertex_of s = record { x = get_or s 0 (pos 0); y = get_or s 1 (pos 0) }

unfoldable pub vertex_words : Vertex → List ℤ
vertex_words v = v.x ∷ v.y ∷ []

abbrev pub vertex_codec : Codec ℤ Vertex
vertex_codec = record { width = 2; blank = pos 0; encode = vertex_words; decode = vertex_of }

-- a trapezoid in a file; in memory it is geometry's `trapezoid_codec`, and with its set `sourced_codec` of crates/sources
abbrev pub file_codec : Codec ℤ Trapezoid
file_codec = record { width = file_width; blank = pos 0; encode = trapezoid_words; decode = trapezoid_of }

-- ---- the polygons of a polygon file's words in an edition, the layers of a layer file's, and those of a layer file's words in memory
abbrev pub polygons_of : Edition → List ℤ → List (List Vertex)
polygons_of edition ws = lists_of (polygon_file edition) vertex_codec ws

abbrev pub file_layers_of : List ℤ → List (List Trapezoid)
file_layers_of ws = lists_of layer_file file_codec ws

abbrev pub layers_of : List ℤ → List (List Trapezoid)
layers_of ws = lists_of layer_words trapezoid_codec ws

-- these with their sets
abbrev pub sourced_layers_of : List ℤ → List (List Sourced)
sourced_layers_of ws = lists_of layer_words sourced_codec ws

-- ---- from a file's words to those in memory and back
-- the count and the pairs
abbrev pub head_of : List ℤ → List ℤ
head_of ws = take (2 * count_in ws + 1) ws

-- of a file's words: "a read piece has an empty set"
unfoldable pub memory_words : List ℤ → List ℤ
memory_words ws = head_of ws ++ words_of sourced_codec (bearing empty (units_of file_codec ws))

-- of words in memory: "and a writer drops the set"
unfoldable pub written_words : List ℤ → List ℤ
written_words ws = head_of ws ++ words_of file_codec (units_of trapezoid_codec ws)

-- ---- the words of a list of layers
-- the pairs of lists of these lengths, with so many units before them: "each next offset is the previous offset plus length"
unfoldable pub pairs_of : ℕ → List ℕ → List ℤ
pairs_of before [] = []
pairs_of before (n ∷ ns) = pos before ∷ pos n ∷ pairs_of (before + n) ns

-- "the book's words (count, pairs, pieces)"
unfoldable pub layer_file_words : List (List Sourced) → List ℤ
layer_file_words layers = pos (length layers) ∷ (pairs_of 0 (map length layers) ++ words_of sourced_codec (joined layers))

-- the words of layer number i of a layer file's words, as a caller passes them on
unfoldable pub layer_words_at : List ℤ → ℕ → List ℤ
layer_words_at ws i = take (memory_width * length_at layer_words ws i) (drop (memory_width * offset_at ws i) (body_of ws))
