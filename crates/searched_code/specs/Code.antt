-- What is seen of a call once rows 1 to 11 have let it pass: what row 13 and then the operation make of it.
use Rattle.std.specs.Prelude.{◌≡◌, List, ℕ, ℤ}
use Rattle.geometry.specs.Trapezoids.{layer_of}
use Rattle.sources.specs.Sourced.{sourced_of}
use Rattle.boolean.specs.Operations.{code_at, difference}
use Rattle.boolean.specs.Sources.{sourced_result}
use Rattle.boolean.specs.Space.{space, stages, equality_stages}
use Rattle.calls.specs.declared.Combined.{Combined}
use Rattle.calls.specs.declared.Equality.{Equality}
use Rattle.calls.specs.Answers.{combined_answer, equality_answer}
use Rattle.calls.specs.Rows.{both_disjoint}
use Rattle.calls.specs.Outcomes.{observed, room_of, outcome, compared_in, equality_outcome}

abbrev pub CombineSearched : ℕ → List ℤ → List ℤ → List ℤ → List ℤ → Combined → List ℤ → List ℤ → Type 0
CombineSearched code a b out scratch answer out_then scratch_then =
    observed (combined_answer answer) out_then scratch_then
    ≡ outcome (both_disjoint a b) out scratch (sourced_result (code_at code) (sourced_of a) (sourced_of b)) (stages (code_at code) (layer_of a) (layer_of b))

abbrev pub EqualSearched : List ℤ → List ℤ → List ℤ → List ℤ → Equality → List ℤ → List ℤ → Type 0
EqualSearched a b out scratch answer out_then scratch_then =
    observed (equality_answer answer) out_then scratch_then
    ≡ equality_outcome (both_disjoint a b) out scratch
    (compared_in (difference (layer_of a) (layer_of b)) (difference (layer_of b) (layer_of a)) (space (room_of out) (equality_stages (layer_of a) (layer_of b))))
