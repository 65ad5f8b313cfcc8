-- What the functions answer and write, by the definitions.
use Rattle.std.specs.Prelude.{◌≡◌, List, ℕ, ◌*◌, ◌≤◌, T, Option, Some, None}
use Rattle.geometry.specs.declared.Trapezoid.{Trapezoid}
use Rattle.boolean.specs.Space.{enough, space}
use Rattle.boolean.specs.Counts.{is_no_room}
use Rattle.extraction.specs.Extraction.{extraction_stages}
use Rattle.marking_code.specs.Code.{MarkedAs, overlays_of_shapes}

-- the shapes of C tried with those of B, and those of B with those of E
abbrev pub BothTried : ℕ → List Trapezoid → List Trapezoid → List Trapezoid → Option ℕ → List ℕ → List ℕ → Type 0
BothTried room C B E None ds es = T (is_no_room (space room (extraction_stages C B E)))
BothTried room C B E (Some overlays) ds es = (space room (extraction_stages C B E) ≡ enough overlays) × MarkedAs C B ds × MarkedAs B E es

abbrev pub BothWithin : Option ℕ → Type 0
BothWithin None = Unit {0}
BothWithin (Some overlays) = overlays ≤ 2 * overlays_of_shapes
