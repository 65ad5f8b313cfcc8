-- Row 7 of polygons: the test says what it means.
use mathlib.Core.Logic.{◌↔◌}
use Prim.Native.Nat.{ℕ}
use lib.Dec.{T}
use mir.Facts.{and_yes, yes_and}
use Rattle.lists.proofs.Lists.{all_exact}
use Rattle.geometry.specs.Limit.{on_grid}
use Rattle.geometry.specs.declared.Vertex.{Vertex}
use Rattle.geometry.specs.Polygons.{vertex_on_grid, VertexOnGrid, polygon_on_grid, PolygonGridExact}
use Rattle.geometry.proofs.Fitness.{grid_coordinate}

vertex_grid_exact : (L : ℕ) (v : Vertex) → T (vertex_on_grid L v) ↔ VertexOnGrid L v
unfolding vertex_on_grid
vertex_grid_exact L v =
    let a = grid_coordinate L v.x in
    let b = grid_coordinate L v.y in (
      (λ h. let k = and_yes (on_grid L v.x) (on_grid L v.y) h in record { x = a.0 k.0; y = b.0 k.1 }),
      (λ h. yes_and (on_grid L v.x) (on_grid L v.y) (a.1 h.x) (b.1 h.y)),
    )

pub polygon_grid_exact : PolygonGridExact
unfolding polygon_on_grid
polygon_grid_exact L polygon = all_exact (vertex_on_grid L) (VertexOnGrid L) (vertex_grid_exact L) polygon
