-- What is proved of the fracture. Each statement is proved under its name in lower case.
use Rattle.std.specs.Prelude.{◌≡◌, not, List, ◌⊎◌, ◌↔◌, ℕ, ◌≤◌, T, ℤ, pos, nat_abs}
use Rattle.lists.specs.Lists.{All, Any, SomePair}
use Rattle.lists.specs.Tests.{bit, count_if}
use Rattle.integer.specs.Fraction.{Fraction}
use Rattle.geometry.specs.declared.Line.{Line}
use Rattle.geometry.specs.declared.Base.{Base}
use Rattle.geometry.specs.declared.Trapezoid.{Trapezoid}
use Rattle.geometry.specs.Limit.{OnGrid}
use Rattle.geometry.specs.Positions.{crosses, meet, position}
use Rattle.geometry.specs.Points.{Point, IsPoint}
use Rattle.geometry.specs.Trapezoids.{lies_in, LiesInLayer, Disjoint}
use Rattle.geometry.specs.Fitness.{FitFor}
use Rattle.geometry.specs.declared.Vertex.{Vertex}
use Rattle.geometry.specs.Polygons.{Polygon, PolygonOnGrid}
use Rattle.sweep.specs.Segments.{cross_inside}
use Rattle.sweep.specs.Columns.{is_zero}
use Rattle.fracture.specs.Polygons.{Edge, edges, whole, segment, winding_number}
use Rattle.fracture.specs.Fracture.{mark, polygon_events, fracture, fracture_all}

-- ---- which points lie in it, for every limit and all polygons, of any size (proofs/Points.antt, the count in proofs/Count.antt)
-- the winding number at P is not zero
abbrev pub Wound : Point → Polygon → Type 0
Wound P polygon = ¬ (winding_number P polygon ≡ pos 0)

-- a rational point lies in some trapezoid exactly if the winding number of some polygon is not zero there
abbrev pub FractureExact : Type 0
FractureExact = (L : ℕ) (polygons : List Polygon) (P : Point) → IsPoint P → LiesInLayer P (fracture_all L polygons) ↔ Any (Wound P) polygons

-- of one polygon's trapezoids one holds P if its winding number is not zero there, and none if it is
abbrev pub FractureCount : Type 0
FractureCount = (L : ℕ) (polygon : Polygon) (P : Point) → IsPoint P → count_if (lies_in P) (fracture L polygon) ≡ bit (not (is_zero (winding_number P polygon)))

-- no rational point lies in two trapezoids of one polygon
abbrev pub PolygonDisjoint : Type 0
PolygonDisjoint = (L : ℕ) (polygon : Polygon) → Disjoint (fracture L polygon)

-- ---- its trapezoids (proofs/Fitness.antt)
-- the trapezoids of polygons on the grid are fit for the same limit
abbrev pub FractureFit : Type 0
FractureFit = (L : ℕ) (polygons : List Polygon) → 1 ≤ L → All (PolygonOnGrid L) polygons → All (FitFor L) (fracture_all L polygons)

-- a line of an edge of the polygon
abbrev pub IsEdgeLine : Polygon → Line → Type 0
IsEdgeLine polygon l = Any (λ (e : Edge). l ≡ e.line) (edges polygon)

abbrev pub FractureSides : Type 0
FractureSides = (L : ℕ) (polygon : Polygon) → All (λ (t : Trapezoid). IsEdgeLine polygon t.bottom × IsEdgeLine polygon t.top) (fracture L polygon)

-- the same of several polygons: both sides of a trapezoid are lines of edges of one of them
abbrev pub SidesOfOne : List Polygon → Trapezoid → Type 0
SidesOfOne polygons t = Any (λ (polygon : Polygon). IsEdgeLine polygon t.bottom × IsEdgeLine polygon t.top) polygons

abbrev pub FractureAllSides : Type 0
FractureAllSides = (L : ℕ) (polygons : List Polygon) → All (SidesOfOne polygons) (fracture_all L polygons)

-- the bases are events of the polygon, word for word
abbrev pub IsBase : ℕ → Polygon → Base → Type 0
IsBase L polygon b = Any (λ (k : Base). b ≡ k) (polygon_events L polygon)

abbrev pub FractureBases : Type 0
FractureBases = (L : ℕ) (polygon : Polygon) → All (λ (t : Trapezoid). IsBase L polygon t.left × IsBase L polygon t.right) (fracture L polygon)

-- ---- events
-- the lines of a mark cross at k, and are on the grid if k is (proofs/Marks.antt)
abbrev pub MarkAt : Type 0
MarkAt = (L : ℕ) (k : ℤ) → T (crosses (mark L k).first (mark L k).second) × (position (mark L k) ≡ whole k)

abbrev pub MarkOnGrid : Type 0
MarkOnGrid = (L : ℕ) (k : ℤ) → 1 ≤ L → nat_abs k ≤ L → OnGrid L (mark L k).first × OnGrid L (mark L k).second

-- two edges cross at x, strictly inside both spans
abbrev pub CrossAt : Fraction → Edge → Edge → Type 0
CrossAt x d e = T (cross_inside (segment d) (segment e)) × (x ≡ meet d.line e.line)

-- the events' positions are those of the vertices and of the crossings strictly inside both edges' spans, and no others (proofs/Events.antt)
abbrev pub EventsExact : Type 0
EventsExact =
    (L : ℕ) (polygon : Polygon) (x : Fraction)
    → Any (λ (k : Base). x ≡ position k) (polygon_events L polygon) ↔ (Any (λ (v : Vertex). x ≡ whole v.x) polygon ⊎ SomePair (CrossAt x) (edges polygon))
