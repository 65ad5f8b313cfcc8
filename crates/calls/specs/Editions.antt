-- The two readers of polygon files, `fracture` and `fracture_first_edition`, as calls on the same bytes, output and scratch area, with the same layer number. Each statement is proved under its name in
-- lower case in proofs/Editions.antt.
use Rattle.std.specs.Prelude.{◌≡◌, List, ℕ, ◌<◌, length, ℤ, Ok}
use Rattle.lists.specs.Lists.{All}
use Rattle.records.specs.Words.{Byte}
use Rattle.files.specs.declared.Edition.{Edition}
use Rattle.files.specs.declared.Edition.TheVariants.{First, New}
use Rattle.files.specs.Formats.{file_words}
use Rattle.files.specs.Pairs.{count_in}
use Rattle.files.specs.Editions.{LeftOut, AllPresent, FirstLeftOut, file_filled_in}
use Rattle.files.specs.Outcomes.{refused}
use Rattle.calls.specs.Rows.{fracture_checked}
use Rattle.calls.specs.Outcomes.{observed, fracture_outcome}

-- the rows of a reader find nothing
abbrev pub Takes : Edition → ℕ → ℕ → List ℕ → List ℤ → List ℤ → Type 0
Takes edition L layer file out scratch = fracture_checked edition L layer file (length out) (length scratch) ≡ Ok tt

-- "For any sheet that both accept, they show the same polygons": they answer and write the same
abbrev pub BothFracture : Type 0
BothFracture =
    (L layer : ℕ) (file : List ℕ) (out scratch : List ℤ) → Takes First L layer file out scratch → Takes New L layer file out scratch → fracture_outcome New L layer file out scratch ≡ fracture_outcome First L layer file out scratch

-- "A sheet with every length present reads as before": accepted or refused, both answer and write the same
abbrev pub FractureAsBefore : Type 0
FractureAsBefore = (L layer : ℕ) (file : List ℕ) (out scratch : List ℤ) → AllPresent (file_words file) → fracture_outcome New L layer file out scratch ≡ fracture_outcome First L layer file out scratch

-- the older reader "refuses with 6 every sheet with a length 0 that the new reader accepts": at the first pair that carries it, and changes nothing
pub record OlderRefusal (L layer : ℕ) (file : List ℕ) (out scratch : List ℤ) : Type 0 where
  pub place : ℕ
  pub first : FirstLeftOut (file_words file) place
  pub is : fracture_outcome First L layer file out scratch ≡ observed (refused 6 place) out scratch

abbrev pub FirstEditionRefuses : Type 0
FirstEditionRefuses =
    (L layer : ℕ) (file : List ℕ) (out scratch : List ℤ) (i : ℕ) → Takes New L layer file out scratch → i < count_in (file_words file) → LeftOut (file_words file) i → OlderRefusal L layer file out scratch

-- a file that the new reader accepts, with its lengths written in: either reader answers and writes of it what the new one does of the file as it was
abbrev pub FilledInFractures : Type 0
FilledInFractures =
    (L layer : ℕ) (file : List ℕ) (out scratch : List ℤ) → All Byte file → Takes New L layer file out scratch → (edition : Edition)
    → fracture_outcome edition L layer (file_filled_in file) out scratch ≡ fracture_outcome New L layer file out scratch
