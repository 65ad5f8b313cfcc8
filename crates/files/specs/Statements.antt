-- Demand 2 of files: what the pairs stand for, and a layer file written and read back, and read and written back, for words and bytes of any
-- number and content; the words of layers, and when a writer takes them. Each statement is proved under its name in lower case, in proofs/Pairs.antt,
-- proofs/RoundTrip.antt and proofs/Words.antt.
use Rattle.std.specs.Prelude.{◌≡◌, List, [], map, ◌↔◌, ℕ, ◌+◌, ◌*◌, ◌<◌, ◌≤◌, T, ℤ, length, take, get_or, Ok}
use Rattle.lists.specs.Lists.{All, joined}
use Rattle.records.specs.Limits.{file_width}
use Rattle.records.specs.Records.{Codec}
use Rattle.records.specs.Words.{Byte}
use Rattle.geometry.specs.Trapezoids.{layer_of}
use Rattle.geometry.specs.Fitness.{FitFor}
use Rattle.sources.specs.Sets.{empty}
use Rattle.sources.specs.Sourced.{Sourced, sourced_of, shapes, bearing}
use Rattle.files.specs.declared.Format.{Format}
use Rattle.files.specs.declared.Edition.{Edition}
use Rattle.files.specs.Formats.{file_words, polygon_file, layer_words}
use Rattle.files.specs.Pairs.{count_in}
use Rattle.files.specs.Directory.{HasPairs}
use Rattle.files.specs.Contents.{units_of, lists_of, lists_from, PairAt, layers_of, file_layers_of, sourced_layers_of, memory_words, written_words, layer_file_words, layer_words_at}
use Rattle.files.specs.Rows.{polygon_file_checked}
use Rattle.files.specs.Outcomes.{is_done, read_layers, write_layers}

-- ---- where rows 5 and 6 let n pairs pass
-- the lists that the lengths cut the body into are those that the offsets and lengths give
abbrev pub ListsByOffset : Type 1
ListsByOffset = (A : Type 0) (f : Format) (C : Codec ℤ A) (ws : List ℤ) (n : ℕ) → C.width ≡ f.unit → 0 < f.unit → HasPairs f ws n → lists_of f C ws ≡ lists_from f C ws n 0

-- joined, they are all units of the body, as rows 7 to 11 number them
abbrev pub ListsJoined : Type 1
ListsJoined = (A : Type 0) (f : Format) (C : Codec ℤ A) (ws : List ℤ) (n : ℕ) → C.width ≡ f.unit → 0 < f.unit → HasPairs f ws n → joined (lists_of f C ws) ≡ units_of C ws

-- each lies in the body
abbrev pub PairsFit : Type 0
PairsFit = (f : Format) (ws : List ℤ) (n : ℕ) → HasPairs f ws n → (i : ℕ) → i < n → PairAt f ws i

-- as in a polygon file that passes
abbrev pub CheckedPairs : Type 0
CheckedPairs =
    (edition : Edition) (L : ℕ) (bytes : List ℕ) → polygon_file_checked edition L bytes ≡ Ok tt → HasPairs (polygon_file edition) (file_words bytes) (count_in (file_words bytes))

-- ---- there and back
-- the bytes that a success of the writer wrote, and the words that a success of the reader wrote
abbrev pub bytes_written : ℕ → List ℤ → List ℕ → List ℕ
bytes_written L ws out = take (4 * length (written_words ws)) (write_layers L ws out).out

abbrev pub words_read : ℕ → List ℕ → List ℤ → List ℤ
words_read L bytes out = take (length (memory_words (file_words bytes))) (read_layers L bytes out).out

-- 32-bit words hold every coordinate under the limit
abbrev pub WordsHold : ℕ → Type 0
WordsHold L = L < 2147483648

-- what was written under a limit reads back under it or a larger one: "A written book then reads back as the same layers with every set empty."
abbrev pub WrittenReads : Type 0
WrittenReads =
    (L M : ℕ) → WordsHold L → L ≤ M → (ws : List ℤ) (out : List ℕ) (into : List ℤ) → T (is_done (write_layers L ws out).answer) → length ws ≤ length into
    → ((read_layers M (bytes_written L ws out) into).answer ≡ (write_layers L ws out).answer)
    × (file_layers_of (file_words (bytes_written L ws out)) ≡ layers_of ws)
    × (layers_of (words_read M (bytes_written L ws out) into) ≡ layers_of ws)
    × (sourced_layers_of (words_read M (bytes_written L ws out) into) ≡ map (bearing empty) (layers_of ws))

-- what was read under a limit writes back under it or a larger one as the same bytes; "a read piece has an empty set"
abbrev pub ReadWrites : Type 0
ReadWrites =
    (L M : ℕ) → L ≤ M → (bytes : List ℕ) (out : List ℤ) (into : List ℕ) → All Byte bytes → T (is_done (read_layers L bytes out).answer) → length bytes ≤ length into
    → ((write_layers M (words_read L bytes out) into).answer ≡ (read_layers L bytes out).answer)
    × (bytes_written M (words_read L bytes out) into ≡ bytes)
    × (layers_of (words_read L bytes out) ≡ file_layers_of (file_words bytes))
    × (sourced_layers_of (words_read L bytes out) ≡ map (bearing empty) (file_layers_of (file_words bytes)))

-- ---- the words of layers
-- without their sets, the layers of words are the trapezoids alone
abbrev pub LayerShapes : Type 0
LayerShapes = (ws : List ℤ) → map shapes (sourced_layers_of ws) ≡ layers_of ws

-- they hold these layers
abbrev pub LayersBack : Type 0
LayersBack = (layers : List (List Sourced)) → (sourced_layers_of (layer_file_words layers) ≡ layers) × (layers_of (layer_file_words layers) ≡ map shapes layers)

-- layers that a writer takes, under a limit and with an output of so many bytes
pub record Writable (L : ℕ) (layers : List (List Sourced)) (out : List ℕ) : Type 0 where
  -- "0 to 16 layers"
  pub few : length layers ≤ layer_words.count
  -- "at most 512 in all"
  pub small : length (joined layers) ≤ layer_words.total
  -- rows 7 to 11 find nothing
  pub fit : All (FitFor L) (shapes (joined layers))
  -- the output is not "shorter than the book": four bytes for each word of the count, the pairs and the trapezoids without their sets
  pub room : 4 * (1 + 2 * length layers + file_width * length (joined layers)) ≤ length out

-- a writer takes the words of exactly these
abbrev pub WriterAccepts : Type 0
WriterAccepts = (L : ℕ) (layers : List (List Sourced)) (out : List ℕ) → T (is_done (write_layers L (layer_file_words layers) out).answer) ↔ Writable L layers out

-- where rows 5 and 6 let n pairs pass, the words of layer number i, passed on as a layer, are that layer of the file
abbrev pub LayerAt : Type 0
LayerAt =
    (ws : List ℤ) (n i : ℕ) → HasPairs layer_words ws n → i < n
    → (sourced_of (layer_words_at ws i) ≡ get_or (sourced_layers_of ws) i []) × (layer_of (layer_words_at ws i) ≡ get_or (layers_of ws) i [])

-- as in the words that a success of the reader wrote
abbrev pub ReadPairs : Type 0
ReadPairs = (L : ℕ) (bytes : List ℕ) (out : List ℤ) → T (is_done (read_layers L bytes out).answer) → HasPairs layer_words (words_read L bytes out) (count_in (words_read L bytes out))
