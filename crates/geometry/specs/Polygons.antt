-- Polygons: vertices on the grid.
use Rattle.std.specs.Prelude.{Bool, ◌&&◌, List, ◌↔◌, ℕ, ◌≤◌, nat_abs, T}
use Rattle.lists.specs.Tests.{all}
use Rattle.lists.specs.Lists.{All}
use Rattle.geometry.specs.Limit.{on_grid}
use Rattle.geometry.specs.declared.Vertex.{Vertex}

-- the vertices in order
abbrev pub Polygon : Type 0
Polygon = List Vertex

-- row 7: each coordinate is within the limit L
pub record VertexOnGrid (L : ℕ) (v : Vertex) : Type 0 where
  pub x : nat_abs v.x ≤ L
  pub y : nat_abs v.y ≤ L

abbrev pub PolygonOnGrid : ℕ → Polygon → Type 0
PolygonOnGrid L polygon = All (VertexOnGrid L) polygon

-- the test, which says what it means (proofs/Polygons.antt: `polygon_grid_exact`)
unfoldable pub vertex_on_grid : ℕ → Vertex → Bool
vertex_on_grid L v = on_grid L v.x && on_grid L v.y

unfoldable pub polygon_on_grid : ℕ → Polygon → Bool
polygon_on_grid L polygon = all (vertex_on_grid L) polygon

abbrev pub PolygonGridExact : Type 0
PolygonGridExact = (L : ℕ) (polygon : Polygon) → T (polygon_on_grid L polygon) ↔ PolygonOnGrid L polygon
