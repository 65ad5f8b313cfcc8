-- The two editions of polygon files side by side: "Our older reader stays beside it for the shops, keeps our first rule", and a file of the new edition with its lengths
-- written in. Each statement is proved under its name in lower case in proofs/Editions.antt.
use Rattle.std.specs.Prelude.{◌≡◌, List, [], ◌∷◌, ◌++◌, ◌↔◌, ℕ, zero, suc, ◌+◌, ◌*◌, ◌<◌, T, ℤ, pos, length, Ok}
use Rattle.lists.specs.Lists.{All}
use Rattle.records.specs.Records.{words_of}
use Rattle.records.specs.Words.{Byte, word_codec}
use Rattle.geometry.specs.Polygons.{PolygonOnGrid}
use Rattle.files.specs.declared.Edition.{Edition}
use Rattle.files.specs.declared.Edition.TheVariants.{First, New}
use Rattle.files.specs.Formats.{file_sized, file_words, word_at, polygon_file}
use Rattle.files.specs.Pairs.{count_in, body_of, length_read}
use Rattle.files.specs.Contents.{polygons_of}
use Rattle.files.specs.Form.{HasForm}
use Rattle.files.specs.Rows.{polygon_file_checked}
use Rattle.geometry.specs.Refusals.{refused_by}

-- ---- which files pass
-- a polygon file as an edition says it: row 4 lets its size pass, its directory has the form, with lengths found where they are left out, and its vertices are on the grid
pub record Accepted (edition : Edition) (L : ℕ) (bytes : List ℕ) : Type 0 where
  pub size : T (file_sized (length bytes))
  pub pairs : ℕ
  pub form : HasForm (polygon_file edition) (file_words bytes) pairs
  pub grid : All (PolygonOnGrid L) (polygons_of edition (file_words bytes))

-- these and no others
abbrev pub AcceptedExact : Type 0
AcceptedExact = (edition : Edition) (L : ℕ) (bytes : List ℕ) → (polygon_file_checked edition L bytes ≡ Ok tt) ↔ Accepted edition L bytes

-- ---- lengths left out
-- pair number i carries length 0
abbrev pub LeftOut : List ℤ → ℕ → Type 0
LeftOut ws i = word_at ws (2 * i + 2) ≡ pos 0

-- "every length present": none that is there is 0
abbrev pub AllPresent : List ℤ → Type 0
AllPresent ws = (i : ℕ) → i < count_in ws → 2 * i + 2 < length ws → LeftOut ws i → ⊥

-- pair number i is the first that carries length 0
pub record FirstLeftOut (ws : List ℤ) (i : ℕ) : Type 0 where
  pub within : i < count_in ws
  pub here : LeftOut ws i
  pub earlier : (j : ℕ) → j < i → LeftOut ws j → ⊥

-- ---- the two readers
-- "For any sheet that both accept, they show the same polygons."
abbrev pub SamePolygons : Type 0
SamePolygons =
    (L M : ℕ) (bytes : List ℕ) → polygon_file_checked First L bytes ≡ Ok tt → polygon_file_checked New M bytes ≡ Ok tt → polygons_of New (file_words bytes) ≡ polygons_of First (file_words bytes)

-- "A sheet with every length present reads as before": it gets the same number and place
abbrev pub ReadsAsBefore : Type 0
ReadsAsBefore = (L : ℕ) (bytes : List ℕ) → AllPresent (file_words bytes) → polygon_file_checked New L bytes ≡ polygon_file_checked First L bytes

-- the older reader "refuses with 6 every sheet with a length 0 that the new reader accepts": at the first pair that carries it
pub record RefusedByOlder (L : ℕ) (bytes : List ℕ) : Type 0 where
  pub place : ℕ
  pub first : FirstLeftOut (file_words bytes) place
  pub is : polygon_file_checked First L bytes ≡ refused_by 6 place

abbrev pub OlderRefuses : Type 0
OlderRefuses = (L M : ℕ) (bytes : List ℕ) (i : ℕ) → polygon_file_checked New M bytes ≡ Ok tt → i < count_in (file_words bytes) → LeftOut (file_words bytes) i → RefusedByOlder L bytes

-- ---- a file with its lengths written in
-- n pairs from number i on
unfoldable pub pairs_filled_in : List ℤ → ℕ → ℕ → List ℤ
pairs_filled_in ws zero i = []
pairs_filled_in ws (suc n) i = word_at ws (2 * i + 1) ∷ length_read (polygon_file New) ws i ∷ pairs_filled_in ws n (i + 1)

unfoldable pub filled_in : List ℤ → List ℤ
filled_in ws = word_at ws 0 ∷ (pairs_filled_in ws (count_in ws) 0 ++ body_of ws)

unfoldable pub file_filled_in : List ℕ → List ℕ
file_filled_in bytes = words_of word_codec (filled_in (file_words bytes))

-- of a file that the new reader accepts: both readers accept it, and show the polygons that the new one shows of the file as it was
abbrev pub FilledInReads : Type 0
FilledInReads =
    (L : ℕ) (bytes : List ℕ) → All Byte bytes → polygon_file_checked New L bytes ≡ Ok tt → (edition : Edition)
    → (polygon_file_checked edition L (file_filled_in bytes) ≡ Ok tt) × (polygons_of edition (file_words (file_filled_in bytes)) ≡ polygons_of New (file_words bytes))
