-- What a reader and a writer of layers answer, and what their outputs hold then.
use Rattle.std.specs.Prelude.{Bool, true, false, List, ◌++◌, ℕ, ◌-◌, ◌<◌, ◌≤◌, leb, ℤ, pos, length, replicate, Result, Ok, Err}
use Rattle.records.specs.Limits.{max_records}
use Rattle.records.specs.Records.{words_of}
use Rattle.records.specs.Words.{word_codec}
use Rattle.geometry.specs.Fitness.{SmallRefusal}
use Rattle.geometry.specs.Trapezoids.{trapezoid_codec}
use Rattle.files.specs.declared.LayersRead.{LayersRead}
use Rattle.files.specs.declared.LayersRead.TheVariants as read
use Rattle.files.specs.declared.LayersWritten.{LayersWritten}
use Rattle.files.specs.declared.LayersWritten.TheVariants as written
use Rattle.files.specs.Formats.{file_words}
use Rattle.files.specs.Contents.{units_of, file_codec, memory_words, written_words}
use Rattle.files.specs.Rows.{layer_file_checked, layer_words_checked}
use Rattle.geometry.specs.declared.Refusal.{Refusal}

-- "A refusal answers its number and place, a success its pieces and cuts." Other calls answer so too; neither reading nor writing makes an overlay (paper 01: cut).
pub data Answer : Type 0 where
  refused : (number place : ℕ) → Answer
  done : (pieces overlays : ℕ) → Answer

abbrev pub is_done : Answer → Bool
is_done (refused number place) = false
is_done (done pieces overlays) = true

-- ---- each enum read as the paper's answer
abbrev pub read_answer : LayersRead → Answer
read_answer (read.Refused number place) = refused number place
read_answer (read.Done pieces overlays) = done pieces overlays

abbrev pub written_answer : LayersWritten → Answer
written_answer (written.Refused number place) = refused number place
written_answer (written.Done pieces overlays) = done pieces overlays

-- the sizes of the numbers in an answer
abbrev pub SmallAnswer : Answer → Type 0
SmallAnswer (refused number place) = SmallRefusal number place
SmallAnswer (done pieces overlays) = (pieces ≤ max_records) × (overlays < 4294967296)

-- ---- an answer, and the output's words or bytes
pub record FileOutcome (W : Type 0) : Type 0 where
  pub answer : Answer
  pub out : List W

-- what was seen of a call
abbrev pub observed_file : {W : Type 0} → Answer → List W → FileOutcome W
observed_file answer out = record { answer = answer; out = out }

-- "For a book reader or writer it means an output shorter than the book." Of an output of n: "zero past the book", and all zero where it is refused with 12
abbrev pub placed : {W : Type 0} → Bool → W → ℕ → List W → ℕ → FileOutcome W
placed true z pieces content n = record { answer = done pieces 0; out = content ++ replicate (n - length content) z }
placed false z pieces content n = record { answer = refused 12 0; out = replicate n z }

-- "1 to 11 change nothing."
abbrev pub file_outcome : {W : Type 0} → Result (Unit {0}) Refusal → W → ℕ → List W → List W → FileOutcome W
file_outcome (Err refusal) z pieces content out = record { answer = refused refusal.number refusal.place; out = out }
file_outcome (Ok u) z pieces content out = placed (leb (length content) (length out)) z pieces content (length out)

-- "A book reader writes the book's words (count, pairs, pieces) and a writer takes them"; under a coordinate limit
unfoldable pub read_layers : ℕ → List ℕ → List ℤ → FileOutcome ℤ
read_layers L bytes out = file_outcome (layer_file_checked L bytes) (pos 0) (length (units_of file_codec (file_words bytes))) (memory_words (file_words bytes)) out

unfoldable pub write_layers : ℕ → List ℤ → List ℕ → FileOutcome ℕ
write_layers L ws out = file_outcome (layer_words_checked L ws) 0 (length (units_of trapezoid_codec ws)) (words_of word_codec (written_words ws)) out
