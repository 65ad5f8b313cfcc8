-- The contract of each public function, said of one call under a coordinate limit: of what it was lent, of what it answered, and of what the words that it was lent are then. The
-- functions' `ensures` cite these, and so do the theorems about calls, so that both speak of the same.
use Rattle.std.specs.Prelude.{◌≡◌, List, ℕ, ℤ}
use Rattle.files.specs.declared.Edition.{Edition}
use Rattle.files.specs.declared.LayersRead.{LayersRead}
use Rattle.files.specs.declared.LayersWritten.{LayersWritten}
use Rattle.files.specs.Outcomes as files
use Rattle.calls.specs.declared.Connected.{Connected}
use Rattle.calls.specs.Components as connectivity
use Rattle.calls.specs.declared.Extracted.{Extracted}
use Rattle.calls.specs.Transistors.{extracted_answer, observed_transistors, transistors_outcome}
use Rattle.calls.specs.declared.Fractured.{Fractured}
use Rattle.calls.specs.declared.Combined.{Combined}
use Rattle.calls.specs.declared.Deoverlapped.{Deoverlapped}
use Rattle.calls.specs.declared.Equality.{Equality}
use Rattle.calls.specs.declared.Containment.{Containment}
use Rattle.calls.specs.Answers.{fractured_answer, combined_answer, deoverlapped_answer, equality_answer, point_answer}
use Rattle.calls.specs.Packed.{packed, packed_equality, packed_point, packed_count}
use Rattle.calls.specs.Rows.{point_at}
use Rattle.calls.specs.Outcomes.{Outcome, observed, fracture_outcome, combined, deoverlap_outcome, equal_outcome, contains_answer}

-- ---- calls with an output and a scratch area (paper 01: work area): what the two held before, the answer, and what they hold then
abbrev pub FractureKept : Edition → ℕ → ℕ → List ℕ → List ℤ → List ℤ → Fractured → List ℤ → List ℤ → Type 0
FractureKept edition L layer file out scratch answer out_then scratch_then = observed (fractured_answer answer) out_then scratch_then ≡ fracture_outcome edition L layer file out scratch

abbrev pub CombineKept : ℕ → ℕ → List ℤ → List ℤ → List ℤ → List ℤ → Combined → List ℤ → List ℤ → Type 0
CombineKept L code a b out scratch answer out_then scratch_then = observed (combined_answer answer) out_then scratch_then ≡ combined L code a b out scratch

abbrev pub DeoverlapKept : ℕ → List ℤ → List ℤ → List ℤ → Deoverlapped → List ℤ → List ℤ → Type 0
DeoverlapKept L a out scratch answer out_then scratch_then = observed (deoverlapped_answer answer) out_then scratch_then ≡ deoverlap_outcome L a out scratch

abbrev pub EqualKept : ℕ → List ℤ → List ℤ → List ℤ → List ℤ → Equality → List ℤ → List ℤ → Type 0
EqualKept L a b out scratch answer out_then scratch_then = observed (equality_answer answer) out_then scratch_then ≡ equal_outcome L a b out scratch

-- ---- the point question: no words are lent to be written
abbrev pub ContainsKept : ℕ → ℤ → ℤ → ℤ → List ℤ → List ℤ → ℕ → Containment → Type 0
ContainsKept L x y d a b code answer = point_answer answer ≡ contains_answer L (point_at x y d) a b code

-- ---- calls with one output
abbrev pub ReadKept : ℕ → List ℕ → List ℤ → LayersRead → List ℤ → Type 0
ReadKept L file out answer out_then = files.observed_file (files.read_answer answer) out_then ≡ files.read_layers L file out

abbrev pub WriteKept : ℕ → List ℤ → List ℕ → LayersWritten → List ℕ → Type 0
WriteKept L words out answer out_then = files.observed_file (files.written_answer answer) out_then ≡ files.write_layers L words out

abbrev pub ComponentsKept : ℕ → List ℤ → List ℕ → Connected → List ℕ → Type 0
ComponentsKept L a numbers answer numbers_then = connectivity.observed_components (connectivity.connected_answer answer) numbers_then ≡ connectivity.components_outcome L a numbers

abbrev pub TransistorsKept : ℕ → List ℤ → List ℤ → List ℤ → List ℕ → List ℤ → List ℤ → Extracted → List ℕ → List ℤ → List ℤ → Type 0
TransistorsKept L c b e list out scratch answer list_then out_then scratch_then =
    observed_transistors (extracted_answer answer) list_then out_then scratch_then ≡ transistors_outcome L c b e list out scratch

-- ---- the functions for C: the answer is one number. Of an outcome o, what was seen: the answer's number, and the words left
abbrev pub SeenFromC : {A : Type 0} → (A → ℕ) → Outcome A → ℕ → List ℤ → List ℤ → Type 0
SeenFromC pack o answer out scratch = (answer ≡ pack o.answer) × (out ≡ o.out) × (scratch ≡ o.scratch)

abbrev pub FileSeenFromC : {W : Type 0} → files.FileOutcome W → ℕ → List W → Type 0
FileSeenFromC o answer out = (answer ≡ packed o.answer) × (out ≡ o.out)

abbrev pub FractureKeptForC : Edition → ℕ → ℕ → List ℕ → List ℤ → List ℤ → ℕ → List ℤ → List ℤ → Type 0
FractureKeptForC edition L layer file out scratch answer out_then scratch_then = SeenFromC packed (fracture_outcome edition L layer file out scratch) answer out_then scratch_then

abbrev pub CombineKeptForC : ℕ → ℕ → List ℤ → List ℤ → List ℤ → List ℤ → ℕ → List ℤ → List ℤ → Type 0
CombineKeptForC L code a b out scratch answer out_then scratch_then = SeenFromC packed (combined L code a b out scratch) answer out_then scratch_then

abbrev pub DeoverlapKeptForC : ℕ → List ℤ → List ℤ → List ℤ → ℕ → List ℤ → List ℤ → Type 0
DeoverlapKeptForC L a out scratch answer out_then scratch_then = SeenFromC packed (deoverlap_outcome L a out scratch) answer out_then scratch_then

abbrev pub EqualKeptForC : ℕ → List ℤ → List ℤ → List ℤ → List ℤ → ℕ → List ℤ → List ℤ → Type 0
EqualKeptForC L a b out scratch answer out_then scratch_then = SeenFromC packed_equality (equal_outcome L a b out scratch) answer out_then scratch_then

abbrev pub ContainsKeptForC : ℕ → ℤ → ℤ → ℤ → List ℤ → List ℤ → ℕ → ℕ → Type 0
ContainsKeptForC L x y d a b code answer = answer ≡ packed_point (contains_answer L (point_at x y d) a b code)

abbrev pub ReadKeptForC : ℕ → List ℕ → List ℤ → ℕ → List ℤ → Type 0
ReadKeptForC L file out answer out_then = FileSeenFromC (files.read_layers L file out) answer out_then

abbrev pub WriteKeptForC : ℕ → List ℤ → List ℕ → ℕ → List ℕ → Type 0
WriteKeptForC L words out answer out_then = FileSeenFromC (files.write_layers L words out) answer out_then

abbrev pub ComponentsKeptForC : ℕ → List ℤ → List ℕ → ℕ → List ℕ → Type 0
ComponentsKeptForC L a numbers answer numbers_then = (answer ≡ packed_count (connectivity.components_outcome L a numbers).answer) × (numbers_then ≡ (connectivity.components_outcome L a numbers).numbers)

abbrev pub TransistorsKeptForC : ℕ → List ℤ → List ℤ → List ℤ → List ℕ → List ℤ → List ℤ → ℕ → List ℕ → List ℤ → List ℤ → Type 0
TransistorsKeptForC L c b e list out scratch answer list_then out_then scratch_then =
    (answer ≡ packed (transistors_outcome L c b e list out scratch).answer) × (list_then ≡ (transistors_outcome L c b e list out scratch).list)
    × (out_then ≡ (transistors_outcome L c b e list out scratch).out) × (scratch_then ≡ (transistors_outcome L c b e list out scratch).scratch)
