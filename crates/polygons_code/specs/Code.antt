-- What a function is told of the polygon that it fractures.
use Rattle.std.specs.Prelude.{List, ℕ, ◌<◌, ◌≤◌, ℤ}
use Rattle.geometry.specs.Limit.{coordinate_limit}
use Rattle.geometry.specs.Polygons.{PolygonOnGrid}
use Rattle.files.specs.declared.Edition.{Edition}
use Rattle.files.specs.Formats.{file_words, polygon_file}
use Rattle.files.specs.Directory.{HasPairs}
use Rattle.trapezoids_code.specs.Tails.{Borrowed}
use Rattle.files_code.specs.Code.{polygon_at}

-- polygon number i, on the grid, of a polygon file of an edition that passes and has `count` polygons, and an output that its trapezoids may go to
abbrev pub MayFracture : Edition → List ℕ → ℕ → ℕ → ℕ → List ℤ → ℕ → Type 0
MayFracture edition file count i limit out room =
    HasPairs (polygon_file edition) (file_words file) count × (i < count) × PolygonOnGrid limit (polygon_at edition (file_words file) i) × (limit ≤ coordinate_limit) × Borrowed out room
