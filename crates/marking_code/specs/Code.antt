-- What the functions answer and write, by the definitions.
use Rattle.std.specs.Prelude.{◌≡◌, Bool, ◌&&◌, List, ◌↔◌, ℕ, ◌*◌, ◌<◌, ◌≤◌, T, length, take, get_or, ℤ, Option, Some, None}
use Rattle.records.specs.Limits.{memory_width, max_records}
use Rattle.records.specs.Records.{count}
use Rattle.geometry.specs.declared.Trapezoid.{Trapezoid}
use Rattle.geometry.specs.Trapezoids.{trapezoid_codec, layer_of}
use Rattle.boolean.specs.Space.{enough, space}
use Rattle.boolean.specs.Counts.{is_no_room}
use Rattle.extraction.specs.Shapes.{shape_of, is_some}
use Rattle.extraction.specs.Extraction.{encloses_at, enclosing_stages}
use Rattle.boxes_code.specs.Code.{BoxedLayer}
use Rattle.shapes_code.specs.Code.{ShapesIn}

-- ---- marks
-- shapes with the numbers i and j of the layers ts and us: both have trapezoids, and the first encloses the second
abbrev pub shapes_enclose : List Trapezoid → List Trapezoid → ℕ → ℕ → Bool
shapes_enclose ts us i j = is_some (shape_of ts i) && (is_some (shape_of us j) && encloses_at ts us i j)

-- each shape of us is marked with the number of the shape of ts that encloses it
pub record MarkedAs (ts us : List Trapezoid) (d : List ℕ) : Type 0 where
  pub one_each : length d ≡ length us
  pub each : (i j : ℕ) → i < length ts → j < length us → (get_or d j 0 ≡ i) ↔ T (shapes_enclose ts us i j)

-- of the shapes of ts tried with those of us: there was no room for some difference; or the number of overlays, and the marks
abbrev pub Tried : ℕ → List Trapezoid → List Trapezoid → Option ℕ → List ℕ → Type 0
Tried room ts us None d = T (is_no_room (space room (enclosing_stages ts us)))
Tried room ts us (Some overlays) d = (space room (enclosing_stages ts us) ≡ enough overlays) × MarkedAs ts us d

-- the most overlays of all differences of two layers' shapes
abbrev pub overlays_of_shapes : ℕ
overlays_of_shapes = max_records * (max_records * max_records)

abbrev pub TriedWithin : Option ℕ → Type 0
TriedWithin None = Unit {0}
TriedWithin (Some overlays) = overlays ≤ overlays_of_shapes

-- ---- a layer of fit trapezoids with the box of each, and a buffer for the trapezoids
pub record RoomForShapes (t s d : List ℤ) : Type 0 where
  pub boxed : BoxedLayer t d
  pub words : memory_width * count trapezoid_codec t ≤ length s

-- its shapes, with their ends, at the start of buffers, and their boxes
pub record ShapesAtStart (t : List ℤ) (ends : List ℕ) (s d : List ℤ) : Type 0 where
  pub room : count trapezoid_codec t ≤ length ends
  pub words : memory_width * count trapezoid_codec t ≤ length s
  pub shapes : ShapesIn (layer_of t) (take (count trapezoid_codec t) ends) (take (memory_width * count trapezoid_codec t) s) d
