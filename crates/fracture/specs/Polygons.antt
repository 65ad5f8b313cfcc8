-- Polygons, their edges, and the winding number at a rational point.
use Rattle.std.specs.Prelude.{Bool, cond, ◌&&◌, List, [], ◌∷◌, ◌++◌, ℤ, pos, negsuc}
use Rattle.std.specs.Int.Signed.{lt_z}
use Rattle.integer.specs.Fraction.{Fraction}
use Rattle.geometry.specs.declared.Line.{Line}
use Rattle.geometry.specs.Points.{Point, at, under}
use Rattle.geometry.specs.declared.Vertex.{Vertex}
use Rattle.geometry.specs.Polygons.{Polygon}
use Rattle.sweep.specs.Sums.{sum}
use Rattle.sweep.specs.Segments.{Segment, spans}

-- ---- edges
pub record Edge : Type 0 where
  pub line : Line
  pub direction : ℤ

abbrev pub line_of : Edge → Line
line_of e = e.line

abbrev pub direction_of : Edge → ℤ
direction_of e = e.direction

abbrev pub through : Vertex → Vertex → Line
through a b = record { x1 = a.x; y1 = a.y; x2 = b.x; y2 = b.y }

-- "An edge with equal x at its ends has no span and counts for nothing"; others "count +1 rightward, −1 leftward"; the line has the "smaller x first"
unfoldable pub edge : Vertex → Vertex → List Edge
edge a b =
    cond (lt_z a.x b.x) (record { line = through a b; direction = pos 1 } ∷ [])
    (cond (lt_z b.x a.x) (record { line = through b a; direction = negsuc 0 } ∷ [])
    [])

-- from v along the list, and from its last to the first
unfoldable pub edges_from : Vertex → Vertex → List Vertex → List Edge
edges_from first v [] = edge v first
edges_from first v (w ∷ ws) = edge v w ++ edges_from first w ws

-- "An edge runs from each vertex to the next, the last to the first." They are numbered in this order.
unfoldable pub edges : Polygon → List Edge
edges [] = []
edges (v ∷ vs) = edges_from v v vs

-- ---- spans
-- the position k
abbrev pub whole : ℤ → Fraction
whole k = record { num = k; den = pos 1 }

-- edges "span from the smaller x, included, to the larger, excluded"
abbrev pub segment : Edge → Segment
segment e = record { line = e.line; from = whole e.line.x1; to = whole e.line.x2 }

-- the span of e holds P, and its height there is at or below P
abbrev pub passes_under : Point → Edge → Bool
passes_under P e = spans (at P) (segment e) && under P e.line

-- "The winding number at a point is the sum over edges whose span holds the point and whose height there is at or below it."
unfoldable pub winding_number : Point → Polygon → ℤ
winding_number P polygon = sum direction_of (passes_under P) (edges polygon)
