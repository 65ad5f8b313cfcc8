-- What each call answers under a coordinate limit L, and what its output and scratch area (paper 01: work area) hold then.
use Rattle.std.specs.Prelude.{Bool, true, false, List, [], ◌∷◌, ℕ, ◌*◌, ◌/◌, length, take, replicate, ℤ, pos, Result, Ok, Err}
use Rattle.records.specs.Limits.{memory_width}
use Rattle.records.specs.Records.{image}
use Rattle.geometry.specs.declared.Trapezoid.{Trapezoid}
use Rattle.geometry.specs.Points.{Point}
use Rattle.geometry.specs.Trapezoids.{layer_of, lies_in_layer}
use Rattle.sources.specs.Sets.{single}
use Rattle.sources.specs.Sourced.{Sourced, sourced_codec, sourced_of, bearing}
use Rattle.boolean.specs.Operations.{code_at, result, difference}
use Rattle.boolean.specs.Sources.{sourced_result, sourced_deoverlapped}
use Rattle.boolean.specs.Space.{Stage, addition, Space, enough, no_room, space, stages, deoverlapped_stages, equality_stages}
use Rattle.fracture.specs.Fracture.{fracture_all}
use Rattle.files.specs.declared.Edition.{Edition}
use Rattle.files.specs.Formats.{file_words}
use Rattle.files.specs.Contents.{polygons_of}
use Rattle.files.specs.Outcomes.{Answer, refused, done}
use Rattle.calls.specs.Answers.{EqualityAnswer, refused_equality, same, differs, PointAnswer, refused_point, yes, no}
use Rattle.calls.specs.Rows.{and_then, both_disjoint, fracture_checked, combine_checked, deoverlap_checked, equal_checked, contains_checked}
use Rattle.geometry.specs.declared.Refusal.{Refusal}

pub record Outcome (A : Type 0) : Type 0 where
  pub answer : A
  pub out : List ℤ
  pub scratch : List ℤ

-- what was seen of a call: its answer, and the words left in its output and scratch area
abbrev pub observed : {A : Type 0} → A → List ℤ → List ℤ → Outcome A
observed answer out scratch = record { answer = answer; out = out; scratch = scratch }

abbrev pub zeros : ℕ → List ℤ
zeros n = replicate n (pos 0)

-- the trapezoids that an output takes
abbrev pub room_of : List ℤ → ℕ
room_of out = length out / memory_width

-- the records that a success wrote: the first ones, as many as its answer counts pieces
abbrev pub records_of : Answer → List ℤ → List ℤ
records_of (refused number place) out = []
records_of (done pieces overlays) out = take (memory_width * pieces) out

-- ---- operations that write trapezoids, with their sets
-- "Pieces go to the output from its first free record on; the rest is zero, and so is the work area." "12 occurs if, and only if, after some cut or
-- addition of the definition, the result so far plus the pieces in hand exceed the output; output and work area are then zero."
abbrev pub written : ℕ → List Sourced → Space → Outcome Answer
written n rs (enough overlays) = record { answer = done (length rs) overlays; out = image sourced_codec n rs; scratch = zeros n }
written n rs (no_room overlays) = record { answer = refused 12 0; out = zeros n; scratch = zeros n }

-- "1 to 11 change nothing.", and neither do 13 and 14
abbrev pub outcome : Result (Unit {0}) Refusal → List ℤ → List ℤ → List Sourced → List Stage → Outcome Answer
outcome (Err refusal) out scratch rs ms = record { answer = refused refusal.number refusal.place; out = out; scratch = scratch }
outcome (Ok u) out scratch rs ms = written (length out) rs (space (room_of out) ms)

-- fracturing the polygons of a polygon file of an edition: "Cutting reports 0 cuts."
abbrev pub fractured_of : Edition → ℕ → List ℕ → List Trapezoid
fractured_of edition L file = fracture_all L (polygons_of edition (file_words file))

-- paper 02 (vii): "Cutting takes a layer number and sets that bit."
unfoldable pub fracture_outcome : Edition → ℕ → ℕ → List ℕ → List ℤ → List ℤ → Outcome Answer
fracture_outcome edition L layer file out scratch =
    outcome (fracture_checked edition L layer file (length out) (length scratch)) out scratch (bearing (single layer) (fractured_of edition L file)) (addition (length (fractured_of edition L file)) ∷ [])

-- the five set operations, by the code's number. Paper 02 (vi): "Each layer given to a set operation, sameness, components or the extraction is refused at the first overlapping pair".
unfoldable pub combined : ℕ → ℕ → List ℤ → List ℤ → List ℤ → List ℤ → Outcome Answer
combined L code a b out scratch =
    outcome (and_then (combine_checked L code a b (length out) (length scratch)) (both_disjoint a b)) out scratch (sourced_result (code_at code) (sourced_of a) (sourced_of b)) (stages (code_at code) (layer_of a) (layer_of b))

-- deoverlapping (paper 01: disjointing): "Disjointing and the point question still take overlaps."
unfoldable pub deoverlap_outcome : ℕ → List ℤ → List ℤ → List ℤ → Outcome Answer
deoverlap_outcome L a out scratch = outcome (deoverlap_checked L a (length out) (length scratch)) out scratch (sourced_deoverlapped (sourced_of a)) (deoverlapped_stages [] (layer_of a))

-- ---- equality (paper 01: sameness)
-- "A−B, and B−A only if that was empty. Answers same, or differs with side 0 (A−B) or 1."
abbrev pub compared : List Trapezoid → List Trapezoid → ℕ → EqualityAnswer
compared [] [] overlays = same overlays
compared [] (t ∷ ts) overlays = differs 1 overlays
compared (t ∷ ts) us overlays = differs 0 overlays

abbrev pub compared_in : List Trapezoid → List Trapezoid → Space → EqualityAnswer
compared_in ts us (enough overlays) = compared ts us overlays
compared_in ts us (no_room overlays) = refused_equality 12 0

-- "Sameness leaves both zero."
abbrev pub equality_outcome : Result (Unit {0}) Refusal → List ℤ → List ℤ → EqualityAnswer → Outcome EqualityAnswer
equality_outcome (Err refusal) out scratch answer = record { answer = refused_equality refusal.number refusal.place; out = out; scratch = scratch }
equality_outcome (Ok u) out scratch answer = record { answer = answer; out = zeros (length out); scratch = zeros (length scratch) }

unfoldable pub equal_outcome : ℕ → List ℤ → List ℤ → List ℤ → List ℤ → Outcome EqualityAnswer
equal_outcome L a b out scratch =
    equality_outcome (and_then (equal_checked L a b (length out) (length scratch)) (both_disjoint a b)) out scratch
    (compared_in (difference (layer_of a) (layer_of b)) (difference (layer_of b) (layer_of a)) (space (room_of out) (equality_stages (layer_of a) (layer_of b))))

-- ---- whether a point lies in the result (paper 01: point question)
abbrev pub asked : Result (Unit {0}) Refusal → Bool → PointAnswer
asked (Err refusal) b = refused_point refusal.number refusal.place
asked (Ok u) true = yes
asked (Ok u) false = no

-- "X, Y, D, two layers and a code; yes if the point lies in the result"
unfoldable pub contains_answer : ℕ → Point → List ℤ → List ℤ → ℕ → PointAnswer
contains_answer L P a b code = asked (contains_checked L P a b code) (lies_in_layer P (result (code_at code) (layer_of a) (layer_of b)))
