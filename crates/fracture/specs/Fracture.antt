-- The events of a polygon (paper 01: stops) and its fracture into trapezoids (cutting, pieces). L is the coordinate limit.
use Rattle.std.specs.Prelude.{Bool, cond, List, [], ◌∷◌, ◌++◌, map, ℕ, ℤ, pos}
use Rattle.integer.specs.Integer.{◌⊕◌, ◌⊖◌}
use Rattle.geometry.specs.declared.Line.{Line}
use Rattle.geometry.specs.declared.Base.{Base}
use Rattle.geometry.specs.declared.Trapezoid.{Trapezoid}
use Rattle.geometry.specs.Positions.{position}
use Rattle.geometry.specs.Polygons.{Polygon}
use Rattle.sweep.specs.Segments.{cross_inside}
use Rattle.sweep.specs.Columns.{is_zero, Slab, column}
use Rattle.sweep.specs.Sweep.{sweep}
use Rattle.fracture.specs.Polygons.{Edge, line_of, direction_of, edges, segment}

-- ---- events
abbrev pub line_by : ℤ → ℤ → ℤ → ℤ → Line
line_by a b c d = record { x1 = a; y1 = b; x2 = c; y2 = d }

-- 0 0 1 0
abbrev pub axis : Line
axis = line_by (pos 0) (pos 0) (pos 1) (pos 0)

-- k 0 k+1 1
abbrev pub rising_at : ℤ → Line
rising_at k = line_by k (pos 0) (k ⊕ pos 1) (pos 1)

-- k−1 1 k 0
abbrev pub falling_at : ℤ → Line
falling_at k = line_by (k ⊖ pos 1) (pos 1) k (pos 0)

-- "A stop at a vertex position k is marked by the line 0 0 1 0 and the line k 0 k+1 1, or 2047 1 2048 0 if k is 2,048": if k is the limit
unfoldable pub mark : ℕ → ℤ → Base
mark L k = record { first = axis; second = cond (is_zero (k ⊖ pos L)) (falling_at k) (rising_at k) }

unfoldable pub marks : ℕ → Polygon → List Base
marks L [] = []
marks L (v ∷ vs) = mark L v.x ∷ marks L vs

abbrev pub edge_crossing : Edge → Edge → Base
edge_crossing d e = record { first = d.line; second = e.line }

-- they cross "strictly inside both edges' spans"
abbrev pub edges_cross : Edge → Edge → Bool
edges_cross d e = cross_inside (segment d) (segment e)

-- of d with each of a list
unfoldable pub edge_crossings_with : Edge → List Edge → List Base
edge_crossings_with d [] = []
edge_crossings_with d (e ∷ es) = cond (edges_cross d e) (edge_crossing d e ∷ edge_crossings_with d es) (edge_crossings_with d es)

-- "lower number first; pairs go by their lower number, then their higher"
unfoldable pub edge_crossings : List Edge → List Base
edge_crossings [] = []
edge_crossings (e ∷ es) = edge_crossings_with e es ++ edge_crossings es

-- "Stops are the distinct positions of all vertices and of crossings strictly inside both edges' spans." Of equal ones the first in this list
-- names the event: a vertex position by its mark, and "Any other stop is named by the lowest pair of crossing edges, lower number first; pairs go by
-- their lower number, then their higher."
unfoldable pub polygon_events : ℕ → Polygon → List Base
polygon_events L polygon = marks L polygon ++ edge_crossings (edges polygon)

-- ---- trapezoids
abbrev pub trapezoid : Base → Base → Slab Edge → Trapezoid
trapezoid p q s = record { left = p; right = q; bottom = s.bottom.line; top = s.top.line }

-- "Between neighbouring stops the spanning edges are ordered by height, coinciding ones as one group. A piece runs from each group where the sum
-- leaves zero to the next where it returns." "A group's line is that of its lowest-numbered edge": es are the edges that span p, by number
unfoldable pub trapezoids : Base → Base → List Edge → List Trapezoid
trapezoids p q es = map (trapezoid p q) (column line_of direction_of (position p) es)

-- "Stops go left to right, pieces bottom to top."
unfoldable pub fracture : ℕ → Polygon → List Trapezoid
fracture L polygon = sweep segment position trapezoids (edges polygon) (polygon_events L polygon)

-- "Polygons are cut in order, lists joined."
unfoldable pub fracture_all : ℕ → List Polygon → List Trapezoid
fracture_all L [] = []
fracture_all L (polygon ∷ polygons) = fracture L polygon ++ fracture_all L polygons
