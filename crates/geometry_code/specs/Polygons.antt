-- A polygon's words: x and y of each vertex.
use Rattle.std.specs.Prelude.{List, [], ◌∷◌, ℤ}
use Rattle.geometry.specs.Polygons.{Polygon}

abbrev pub polygon_of : List ℤ → Polygon
polygon_of [] = []
polygon_of (x ∷ []) = []
polygon_of (x ∷ y ∷ ws) = record { x = x; y = y } ∷ polygon_of ws
