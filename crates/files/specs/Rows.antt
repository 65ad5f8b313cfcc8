-- The table of refusals, rows 4 to 11, of files and of a layer file's words: "Rows are checked downward".
use Rattle.std.specs.Prelude.{Bool, true, false, List, [], ◌∷◌, ℕ, ◌+◌, ℤ, length, Result, Ok, Err}
use Rattle.lists.specs.Tests.{all}
use Rattle.records.specs.Records.{Codec}
use Rattle.geometry.specs.declared.Trapezoid.{Trapezoid}
use Rattle.geometry.specs.Trapezoids.{trapezoid_codec}
use Rattle.geometry.specs.Fitness.{first_refusal}
use Rattle.geometry.specs.declared.Vertex.{Vertex}
use Rattle.geometry.specs.Polygons.{vertex_on_grid}
use Rattle.files.specs.declared.Format.{Format}
use Rattle.files.specs.declared.Edition.{Edition}
use Rattle.files.specs.Formats.{file_sized, file_words, polygon_file, layer_file, layer_words}
use Rattle.files.specs.Directory.{directory_of}
use Rattle.files.specs.Contents.{units_of, polygons_of, file_codec}
use Rattle.geometry.specs.declared.Refusal.{Refusal}
use Rattle.geometry.specs.Refusals.{refused_by}
use Rattle.files.specs.declared.Directory.{Directory}

-- row 4, then the rows below
abbrev pub size_row : Bool → Result (Unit {0}) Refusal → Result (Unit {0}) Refusal
size_row true below = below
size_row false below = refused_by 4 0

-- rows 5 and 6, then the rows below
abbrev pub directory_rows : Result Directory Refusal → Result (Unit {0}) Refusal → Result (Unit {0}) Refusal
directory_rows (Err refusal) below = Err refusal
directory_rows (Ok directory) below = below

-- ---- row 7 of a polygon file: "coordinate beyond ±2,048", or the limit L of the call, place the polygon
abbrev pub grid_row : Bool → ℕ → Result (Unit {0}) Refusal → Result (Unit {0}) Refusal
grid_row true i below = below
grid_row false i below = refused_by 7 i

unfoldable pub first_off_grid : ℕ → ℕ → List (List Vertex) → Result (Unit {0}) Refusal
first_off_grid L i [] = Ok tt
first_off_grid L i (p ∷ ps) = grid_row (all (vertex_on_grid L) p) i (first_off_grid L (i + 1) ps)

-- ---- the rows of a polygon file of an edition, under a coordinate limit
unfoldable pub polygon_file_checked : Edition → ℕ → List ℕ → Result (Unit {0}) Refusal
polygon_file_checked edition L bytes =
    size_row (file_sized (length bytes)) (directory_rows (directory_of (polygon_file edition) (file_words bytes)) (first_off_grid L 0 (polygons_of edition (file_words bytes))))

-- ---- rows 5 to 11 of layers, under a coordinate limit: "in a book they are numbered through all layers"
unfoldable pub layers_checked : ℕ → Format → Codec ℤ Trapezoid → List ℤ → Result (Unit {0}) Refusal
layers_checked L f C ws = directory_rows (directory_of f ws) (first_refusal L 0 (units_of C ws))

-- of a layer file
unfoldable pub layer_file_checked : ℕ → List ℕ → Result (Unit {0}) Refusal
layer_file_checked L bytes = size_row (file_sized (length bytes)) (layers_checked L layer_file file_codec (file_words bytes))

-- of the words that a writer takes: "5 to 11 apply to both"
abbrev pub layer_words_checked : ℕ → List ℤ → Result (Unit {0}) Refusal
layer_words_checked L ws = layers_checked L layer_words trapezoid_codec ws
