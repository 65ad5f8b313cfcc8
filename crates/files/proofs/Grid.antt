-- The polygons of a file that passes are on the grid.
use mathlib.Core.Path.{◌≡◌, refl, sym, subst}
use mathlib.Core.Bool.{Bool, true, false}
use mathlib.Core.List.{List, [], ◌∷◌}
use mathlib.Core.Logic.{◌↔◌}
use Prim.Native.Nat.{ℕ, ◌+◌}
use native.Mathlib.Omega.{arith}
use lib.Dec.{T}
use Rattle.lists.specs.Lists.{All}
use Rattle.lists.specs.Tests.{all}
use Rattle.lists.proofs.Tests.{true_is}
use Rattle.geometry.specs.Polygons.{vertex_on_grid, Polygon, PolygonOnGrid, polygon_on_grid}
use Rattle.geometry.proofs.Polygons.{polygon_grid_exact}
use Rattle.files.specs.declared.Edition.{Edition}
use Rattle.files.specs.Formats.{file_words}
use Rattle.files.specs.Contents.{polygons_of}
use Rattle.files.specs.Rows.{grid_row, first_off_grid, polygon_file_checked}
use Rattle.files.proofs.Polygons.{polygon_file_passes}
use Rattle.std.specs.Prelude.{Ok}

-- ---- row 7 finds nothing exactly if all polygons are on the grid
grid_passes : (L i : ℕ) (ps : List Polygon) → first_off_grid L i ps ≡ Ok tt → All (PolygonOnGrid L) ps
unfolding first_off_grid polygon_on_grid
grid_passes L i [] e = tt
grid_passes L i (p ∷ ps) e = by (all (vertex_on_grid L) p) refl (grid_passes L (i + 1) ps) e
  where
    by : (t : Bool) → all (vertex_on_grid L) p ≡ t → (first_off_grid L (i + 1) ps ≡ Ok tt → All (PolygonOnGrid L) ps) → grid_row t i (first_off_grid L (i + 1) ps) ≡ Ok tt → All (PolygonOnGrid L) (p ∷ ps)
    by true k rest e = ((polygon_grid_exact L p).0 (subst T (sym k) tt), rest e)
    by false k rest e = let z : ◌≡◌ {A = ℕ} 0 1 = cc in absurd (omega arith)

grid_all : (L i : ℕ) (ps : List Polygon) → All (PolygonOnGrid L) ps → first_off_grid L i ps ≡ Ok tt
unfolding first_off_grid polygon_on_grid
grid_all L i [] h = refl
grid_all L i (p ∷ ps) h = let t : all (vertex_on_grid L) p ≡ true = true_is ((polygon_grid_exact L p).1 h.0) in rw t (grid_all L (i + 1) ps h.1)

pub grid_exact : (L i : ℕ) (ps : List Polygon) → (first_off_grid L i ps ≡ Ok tt) ↔ All (PolygonOnGrid L) ps
grid_exact L i ps = (grid_passes L i ps, grid_all L i ps)

pub checked_grid : (edition : Edition) (L : ℕ) (bytes : List ℕ) → polygon_file_checked edition L bytes ≡ Ok tt → All (PolygonOnGrid L) (polygons_of edition (file_words bytes))
checked_grid edition L bytes e = grid_passes L 0 (polygons_of edition (file_words bytes)) (polygon_file_passes edition L bytes e).grid
