-- Calls that were made: the coordinate limit that each went by, what it was lent, what it answered, and what it left in the words that it was lent. A call is right if it kept the function's
-- contract, and accepted if its answer is no refusal.
use Rattle.std.specs.Prelude.{List, ℕ, ◌*◌, T, ℤ, length, take}
use Rattle.files.specs.declared.Edition.{Edition}
use Rattle.files.specs.declared.LayersRead.{LayersRead}
use Rattle.files.specs.declared.LayersWritten.{LayersWritten}
use Rattle.files.specs.Formats.{file_words}
use Rattle.files.specs.Contents.{memory_words, written_words}
use Rattle.files.specs.Outcomes as files
use Rattle.files.specs.Outcomes.{is_done}
use Rattle.calls.specs.declared.Fractured.{Fractured}
use Rattle.calls.specs.declared.Deoverlapped.{Deoverlapped}
use Rattle.calls.specs.Answers.{fractured_answer, deoverlapped_answer}
use Rattle.calls.specs.Outcomes.{records_of}
use Rattle.calls.specs.Promises.{FractureKept, DeoverlapKept, ReadKept, WriteKept}
use Rattle.chains.specs.Chains.{Layer}

-- ---- `fracture` of a polygon file's bytes, which reads the new edition, or `fracture_first_edition`, with a layer number
pub record FractureCall : Type 0 where
  pub edition : Edition
  pub limit : ℕ
  pub layer : ℕ
  pub file : List ℕ
  pub out : List ℤ
  pub scratch : List ℤ
  pub answer : Fractured
  pub out_then : List ℤ
  pub scratch_then : List ℤ

pub record FractureAccepted (c : FractureCall) : Type 0 where
  pub kept : FractureKept c.edition c.limit c.layer c.file c.out c.scratch c.answer c.out_then c.scratch_then
  pub accepted : T (is_done (fractured_answer c.answer))

-- what it wrote
abbrev pub fractured_by : FractureCall → Layer
fractured_by c = records_of (fractured_answer c.answer) c.out_then

-- ---- `deoverlap` of a layer
pub record DeoverlapCall : Type 0 where
  pub limit : ℕ
  pub layer : Layer
  pub out : List ℤ
  pub scratch : List ℤ
  pub answer : Deoverlapped
  pub out_then : List ℤ
  pub scratch_then : List ℤ

pub record DeoverlapAccepted (c : DeoverlapCall) : Type 0 where
  pub kept : DeoverlapKept c.limit c.layer c.out c.scratch c.answer c.out_then c.scratch_then
  pub accepted : T (is_done (deoverlapped_answer c.answer))

abbrev pub deoverlapped_by : DeoverlapCall → Layer
deoverlapped_by c = records_of (deoverlapped_answer c.answer) c.out_then

-- ---- `write_layers` of a layer file's words
pub record WriteCall : Type 0 where
  pub limit : ℕ
  pub words : List ℤ
  pub out : List ℕ
  pub answer : LayersWritten
  pub out_then : List ℕ

pub record WriteAccepted (c : WriteCall) : Type 0 where
  pub kept : WriteKept c.limit c.words c.out c.answer c.out_then
  pub accepted : T (files.is_done (files.written_answer c.answer))

-- the bytes that it wrote, four for each word of the file, which has no sets
abbrev pub bytes_by : WriteCall → List ℕ
bytes_by c = take (4 * length (written_words c.words)) c.out_then

-- ---- `read_layers` of a layer file's bytes
pub record ReadCall : Type 0 where
  pub limit : ℕ
  pub file : List ℕ
  pub out : List ℤ
  pub answer : LayersRead
  pub out_then : List ℤ

abbrev pub ReadRight : ReadCall → Type 0
ReadRight c = ReadKept c.limit c.file c.out c.answer c.out_then

pub record ReadAccepted (c : ReadCall) : Type 0 where
  pub kept : ReadRight c
  pub accepted : T (files.is_done (files.read_answer c.answer))

-- the words that it wrote: those of the file, with a set for each trapezoid
abbrev pub words_by : ReadCall → List ℤ
words_by c = take (length (memory_words (file_words c.file))) c.out_then
