-- What `transistors` answers, and what its list, its output and its scratch area (paper 01: work area) hold then.
use Rattle.std.specs.Prelude.{◌≡◌, Bool, true, false, ◌&&◌, List, ◌++◌, ℕ, ◌+◌, ◌*◌, leb, length, replicate, ℤ, Result, Ok, Err}
use Rattle.records.specs.Limits.{sized}
use Rattle.records.specs.Records.{records_from, image}
use Rattle.geometry.specs.Trapezoids.{layer_of}
use Rattle.geometry.specs.Fitness.{first_refusal}
use Rattle.overlay.specs.Overlaps.{first_overlap}
use Rattle.boolean.specs.Space.{Space, enough, no_room, space}
use Rattle.extraction.specs.Extraction.{Triple, triples, extraction_stages, triple_codec}
use Rattle.extraction.specs.Statements.{TransistorsOf}
use Rattle.files.specs.Outcomes.{Answer, refused, done}
use Rattle.calls.specs.declared.Extracted.{Extracted}
use Rattle.calls.specs.declared.Extracted.TheVariants as extracted
use Rattle.calls.specs.Rows.{row, and_then, buffers_sized, both_disjoint}
use Rattle.calls.specs.Outcomes.{zeros, room_of}
use Rattle.geometry.specs.declared.Refusal.{Refusal}

-- ---- the rows
-- rows 7 to 11: "Places are numbered on through collector, base and emitter layers."
abbrev pub three_checked : ℕ → List ℤ → List ℤ → List ℤ → Result (Unit {0}) Refusal
three_checked L c b e = first_refusal L 0 (layer_of c ++ (layer_of b ++ layer_of e))

-- row 1, of three layers and of an output and a scratch area of so many words, then rows 7 to 11 under a coordinate limit; the list has any length
unfoldable pub transistors_checked : ℕ → List ℤ → List ℤ → List ℤ → ℕ → ℕ → Result (Unit {0}) Refusal
transistors_checked L c b e out scratch =
    row 1 (sized (length c) && (sized (length b) && (sized (length e) && buffers_sized out scratch))) (three_checked L c b e)

-- row 13, numbered on in the same way
abbrev pub three_disjoint : List ℤ → List ℤ → List ℤ → Result (Unit {0}) Refusal
three_disjoint c b e = and_then (both_disjoint c b) (first_overlap (length (layer_of c) + length (layer_of b)) (layer_of e))

-- ---- the answer: "the answer counts triples and cuts", triples in the place of pieces
abbrev pub extracted_answer : Extracted → Answer
extracted_answer (extracted.Refused number place) = refused number place
extracted_answer (extracted.Done triples overlays) = done triples overlays

-- ---- the answer, the list, the output and the scratch area
pub record TransistorsOutcome : Type 0 where
  pub answer : Answer
  pub list : List ℕ
  pub out : List ℤ
  pub scratch : List ℤ

abbrev pub observed_transistors : Answer → List ℕ → List ℤ → List ℤ → TransistorsOutcome
observed_transistors answer list out scratch = record { answer = answer; list = list; out = out; scratch = scratch }

-- "12 is met there by the same rule, or by too short a list; all three are then zero. Otherwise the list, of any length, is zero past the triples": of
-- a list of n words and whether the triples fit it
abbrev pub extracted_in : ℕ → List Triple → Bool → Space → ℕ → ℕ → TransistorsOutcome
extracted_in n ts true (enough overlays) out scratch = observed_transistors (done (length ts) overlays) (image triple_codec n ts) (zeros out) (zeros scratch)
extracted_in n ts false (enough overlays) out scratch = observed_transistors (refused 12 0) (replicate n 0) (zeros out) (zeros scratch)
extracted_in n ts fits (no_room overlays) out scratch = observed_transistors (refused 12 0) (replicate n 0) (zeros out) (zeros scratch)

-- the triples fit a list of n words, three words each
abbrev pub list_fits : ℕ → List Triple → Bool
list_fits n ts = leb (3 * length ts) n

-- "1 to 11 change nothing.", and neither does 13
abbrev pub transistors_outcome_of : Result (Unit {0}) Refusal → List Triple → Space → List ℕ → List ℤ → List ℤ → TransistorsOutcome
transistors_outcome_of (Err refusal) ts s list out scratch = observed_transistors (refused refusal.number refusal.place) list out scratch
transistors_outcome_of (Ok u) ts s list out scratch = extracted_in (length list) ts (list_fits (length list) ts) s (length out) (length scratch)

unfoldable pub transistors_outcome : ℕ → List ℤ → List ℤ → List ℤ → List ℕ → List ℤ → List ℤ → TransistorsOutcome
transistors_outcome L c b e list out scratch =
    transistors_outcome_of (and_then (transistors_checked L c b e (length out) (length scratch)) (three_disjoint c b e)) (triples (layer_of c) (layer_of b) (layer_of e))
    (space (room_of out) (extraction_stages (layer_of c) (layer_of b) (layer_of e))) list out scratch

-- ---- what a success means, for words of any number and content (proofs/Transistors.antt: `extracted_exact`)
-- the first n triples of a list
abbrev pub first_triples : ℕ → List ℕ → List Triple
first_triples n list = records_from triple_codec n list 0

abbrev pub ExtractedExact : Type 0
ExtractedExact =
    (L : ℕ) (c b e : List ℤ) (list : List ℕ) (out scratch : List ℤ) (n overlays : ℕ) → (transistors_outcome L c b e list out scratch).answer ≡ done n overlays
    → TransistorsOf (layer_of c) (layer_of b) (layer_of e) (first_triples n (transistors_outcome L c b e list out scratch).list)
