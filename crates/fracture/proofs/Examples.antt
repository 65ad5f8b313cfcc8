-- The definitions compute: the paper's cases (g), (h) and (i), the lister's example, and how groups and events are named.
use mathlib.Core.Path.{◌≡◌, refl}
use mathlib.Core.Bool.{false}
use mathlib.Core.List.{List, [], ◌∷◌, ◌++◌, map}
use Prim.Native.Nat.{ℕ, suc}
use lib.IntN.{ℤ, pos}
use lib.ListN.{length}
use Rattle.lists.specs.Tests.{keep}
use Rattle.integer.specs.Integer.{◌⊕◌, ◌⊖◌, ◌⊗◌, ⊝◌}
use Rattle.integer.specs.Compare.{order_of}
use Rattle.integer.specs.Fraction.{before}
use Rattle.levels.specs.Levels.{insert, levels}
use Rattle.geometry.specs.declared.Line.{Line}
use Rattle.geometry.specs.declared.Base.{Base}
use Rattle.geometry.specs.declared.Trapezoid.{Trapezoid}
use Rattle.geometry.specs.Limit.{on_grid}
use Rattle.geometry.specs.Lines.{dx, dy, offset, det, numer}
use Rattle.geometry.specs.Positions.{crosses, ratio, meet, heights, right_of, below}
use Rattle.geometry.specs.Points.{Point, orientation, under}
use Rattle.geometry.specs.Trapezoids.{trapezoid_words}
use Rattle.geometry.specs.declared.Vertex.{Vertex}
use Rattle.geometry.specs.Polygons.{vertex_on_grid, Polygon, polygon_on_grid}
use Rattle.sweep.specs.Sums.{sum}
use Rattle.sweep.specs.Segments.{spans, inside, cross_inside}
use Rattle.sweep.specs.Columns.{slabs, up_to, column}
use Rattle.sweep.specs.Sweep.{columns, sweep}
use Rattle.fracture.specs.Polygons.{edge, edges_from, edges, winding_number}
use Rattle.fracture.specs.Fracture.{line_by, mark, marks, edge_crossings_with, edge_crossings, polygon_events, trapezoids, fracture, fracture_all}

abbrev vertex : ℕ → ℕ → Vertex
vertex a b = record { x = pos a; y = pos b }

abbrev words : List ℕ → List ℤ
words ns = map pos ns

abbrev line : ℕ → ℕ → ℕ → ℕ → Line
line a b c d = line_by (pos a) (pos b) (pos c) (pos d)

abbrev cross : Line → Line → Base
cross l m = record { first = l; second = m }

abbrev at : ℕ → Base
at k = cross (line 0 0 1 0) (line k 0 (suc k) 1)

abbrev between : Base → Base → Line → Line → Trapezoid
between p q l m = record { left = p; right = q; bottom = l; top = m }

-- (g): a bow tie, 2 trapezoids
abbrev CaseG : Type 0
CaseG = length (fracture 2048 (vertex 0 0 ∷ vertex 4 4 ∷ vertex 4 0 ∷ vertex 0 4 ∷ [])) ≡ 2

-- (h): a square run through twice, 1 trapezoid
abbrev square : Polygon
square = vertex 0 0 ∷ vertex 2 0 ∷ vertex 2 2 ∷ vertex 0 2 ∷ []

abbrev CaseH : Type 0
CaseH = length (fracture 2048 (square ++ square)) ≡ 1

-- it is wound round twice at (1,1), and not at the right end (2,1) nor at the top (1,2)
abbrev point : ℕ → ℕ → Point
point a b = record { X = pos a; Y = pos b; D = pos 1 }

abbrev Twice : Type 0
Twice = winding_number (point 1 1) (square ++ square) ≡ pos 2

abbrev RightEnd : Type 0
RightEnd = winding_number (point 2 1) (square ++ square) ≡ pos 0

abbrev Top : Type 0
Top = winding_number (point 1 2) (square ++ square) ≡ pos 0

-- (i): 1 trapezoid, with the mark at the limit; 2,049 is not on the grid
abbrev CaseI : Type 0
CaseI =
    map trapezoid_words (fracture 2048 (vertex 2048 2048 ∷ vertex 2047 2048 ∷ vertex 2048 2047 ∷ []))
    ≡ words (0 ∷ 0 ∷ 1 ∷ 0 ∷ 2047 ∷ 0 ∷ 2048 ∷ 1 ∷ 0 ∷ 0 ∷ 1 ∷ 0 ∷ 2047 ∷ 1 ∷ 2048 ∷ 0 ∷ 2047 ∷ 2048 ∷ 2048 ∷ 2047 ∷ 2047 ∷ 2048 ∷ 2048 ∷ 2048 ∷ []) ∷ []

abbrev CaseI' : Type 0
CaseI' = polygon_on_grid 2048 (vertex 2049 2048 ∷ vertex 2047 2048 ∷ vertex 2048 2047 ∷ []) ≡ false

-- the lister's example
abbrev Listed : Type 0
Listed =
    map trapezoid_words (fracture 2048 (vertex 0 0 ∷ vertex 2 0 ∷ vertex 0 2 ∷ []))
    ≡ words (0 ∷ 0 ∷ 1 ∷ 0 ∷ 0 ∷ 0 ∷ 1 ∷ 1 ∷ 0 ∷ 0 ∷ 1 ∷ 0 ∷ 2 ∷ 0 ∷ 3 ∷ 1 ∷ 0 ∷ 0 ∷ 2 ∷ 0 ∷ 0 ∷ 2 ∷ 2 ∷ 0 ∷ []) ∷ []

-- the line of the edge from (6,6) to (4,2) meets that of the first edge at 3, outside its own span: no event
abbrev Outside : Type 0
Outside =
    fracture 2048 (vertex 0 0 ∷ vertex 6 0 ∷ vertex 6 6 ∷ vertex 4 2 ∷ vertex 0 6 ∷ [])
    ≡ between (at 0) (at 4) (line 0 0 6 0) (line 0 6 4 2)
    ∷ between (at 4) (at 6) (line 0 0 6 0) (line 4 2 6 6)
    ∷ []

-- three edges cross in (2,2): the lowest pair names the event
abbrev middle : Base
middle = cross (line 0 0 4 4) (line 0 2 4 2)

abbrev Three : Type 0
Three =
    fracture 2048 (vertex 0 0 ∷ vertex 4 4 ∷ vertex 4 2 ∷ vertex 0 2 ∷ vertex 0 4 ∷ vertex 4 0 ∷ [])
    ≡ between (at 0) middle (line 0 0 4 0) (line 0 0 4 4)
    ∷ between (at 0) middle (line 0 2 4 2) (line 0 4 4 0)
    ∷ between middle (at 4) (line 0 0 4 0) (line 0 4 4 0)
    ∷ between middle (at 4) (line 0 2 4 2) (line 0 0 4 4)
    ∷ []

-- the same with a vertex at 2, whose mark comes first
abbrev Marked : Type 0
Marked =
    fracture 2048 (vertex 0 0 ∷ vertex 4 4 ∷ vertex 4 2 ∷ vertex 0 2 ∷ vertex 0 4 ∷ vertex 4 0 ∷ vertex 2 0 ∷ [])
    ≡ between (at 0) (at 2) (line 0 0 2 0) (line 0 0 4 4)
    ∷ between (at 0) (at 2) (line 0 2 4 2) (line 0 4 4 0)
    ∷ between (at 2) (at 4) (line 2 0 4 0) (line 0 4 4 0)
    ∷ between (at 2) (at 4) (line 0 2 4 2) (line 0 0 4 4)
    ∷ []

-- edges that coincide in part: the lowest-numbered gives the line
abbrev Group : Type 0
Group =
    fracture 2048 (vertex 0 0 ∷ vertex 4 0 ∷ vertex 4 2 ∷ vertex 0 2 ∷ vertex 0 0 ∷ vertex 2 0 ∷ vertex 4 0 ∷ vertex 4 2 ∷ vertex 0 2 ∷ [])
    ≡ between (at 0) (at 2) (line 0 0 4 0) (line 0 2 4 2)
    ∷ between (at 2) (at 4) (line 0 0 4 0) (line 0 2 4 2)
    ∷ []

-- "Polygons are cut in order, lists joined": the right one of two squares is the first here
abbrev InOrder : Type 0
InOrder =
    fracture_all 2048 ((vertex 4 0 ∷ vertex 6 0 ∷ vertex 6 2 ∷ vertex 4 2 ∷ []) ∷ square ∷ [])
    ≡ between (at 4) (at 6) (line 4 0 6 0) (line 4 2 6 2)
    ∷ between (at 0) (at 2) (line 0 0 2 0) (line 0 2 2 2)
    ∷ []

-- a spike run forth and back holds nothing
abbrev Spike : Type 0
Spike = fracture 2048 (vertex 0 0 ∷ vertex 6 2 ∷ vertex 0 0 ∷ vertex 3 9 ∷ []) ≡ []

examples : CaseG × CaseH × Twice × RightEnd × Top × CaseI × CaseI' × Listed × Outside × Three × Marked × Group × InOrder × Spike
unfolding ◌⊕◌ ◌⊖◌ ◌⊗◌ ⊝◌ order_of before insert levels on_grid dx dy offset det numer crosses ratio meet heights right_of below orientation under trapezoid_words keep sum spans inside
    cross_inside slabs up_to column columns sweep vertex_on_grid polygon_on_grid edge edges_from edges winding_number mark marks edge_crossings_with edge_crossings polygon_events trapezoids fracture fracture_all
examples = (refl, refl, refl, refl, refl, refl, refl, refl, refl, refl, refl, refl, refl, refl)
