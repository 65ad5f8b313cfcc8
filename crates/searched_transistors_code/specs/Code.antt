-- What is seen of a call once rows 1 to 11 have let it pass: what row 13 and then the extraction make of it.
use Rattle.std.specs.Prelude.{◌≡◌, List, ℕ, ℤ}
use Rattle.geometry.specs.Trapezoids.{layer_of}
use Rattle.boolean.specs.Space.{space}
use Rattle.extraction.specs.Extraction.{triples, extraction_stages}
use Rattle.calls.specs.declared.Extracted.{Extracted}
use Rattle.calls.specs.Outcomes.{room_of}
use Rattle.calls.specs.Transistors.{three_disjoint, extracted_answer, observed_transistors, transistors_outcome_of}

abbrev pub TransistorsSearched : List ℤ → List ℤ → List ℤ → List ℕ → List ℤ → List ℤ → Extracted → List ℕ → List ℤ → List ℤ → Type 0
TransistorsSearched c b e list out scratch answer list_then out_then scratch_then =
    observed_transistors (extracted_answer answer) list_then out_then scratch_then
    ≡ transistors_outcome_of (three_disjoint c b e) (triples (layer_of c) (layer_of b) (layer_of e)) (space (room_of out) (extraction_stages (layer_of c) (layer_of b) (layer_of e))) list out scratch
