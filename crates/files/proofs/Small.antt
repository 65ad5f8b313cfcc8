-- The number and the place of a file's refusal are small.
use mathlib.Core.Path.{◌≡◌, refl}
use mathlib.Core.Bool.{Bool, true, false}
use mathlib.Core.List.{List, [], ◌∷◌}
use Prim.Native.Nat.{ℕ, ◌+◌, ◌<◌, ◌≤◌}
use native.Mathlib.Omega.{arith}
use lib.IntN.{ℤ}
use lib.ListN.{length}
use Rattle.lists.specs.Tests.{all}
use Rattle.records.specs.Records.{Codec}
use Rattle.geometry.specs.declared.Vertex.{Vertex}
use Rattle.geometry.specs.declared.Trapezoid.{Trapezoid}
use Rattle.geometry.specs.Polygons.{vertex_on_grid}
use Rattle.geometry.specs.Fitness.{first_refusal}
use Rattle.geometry.specs.Trapezoids.{trapezoid_codec}
use Rattle.geometry.proofs.Refusals.{SmallChecked, small_first}
use Rattle.files.specs.declared.Format.{Format}
use Rattle.files.specs.declared.Edition.{Edition}
use Rattle.files.specs.Formats.{file_sized, file_words, polygon_file, layer_file, layer_words}
use Rattle.files.specs.Directory.{directory_of}
use Rattle.files.specs.Contents.{units_of, vertex_codec, file_codec, polygons_of}
use Rattle.files.specs.Rows.{size_row, directory_rows, grid_row, first_off_grid, polygon_file_checked, layers_checked, layer_file_checked, layer_words_checked}
use Rattle.files.proofs.Right.{right, count_in_lem}
use Rattle.files.proofs.Bounds.{directory_bound, units_are}
use Rattle.files.proofs.Pairs.{lists_length}
use Rattle.std.specs.Prelude.{Result, Ok, Err}
use Rattle.geometry.specs.declared.Refusal.{Refusal}
use Rattle.files.specs.declared.Directory.{Directory}

-- row 4
size_small : (b : Bool) (c : Result (Unit {0}) Refusal) → SmallChecked c → SmallChecked (size_row b c)
size_small true c h = h
size_small false c h = (omega arith, omega arith)

-- ---- a polygon file
grid_small : (b : Bool) (i : ℕ) (c : Result (Unit {0}) Refusal) → i < 4294967296 → SmallChecked c → SmallChecked (grid_row b i c)
grid_small true i c l h = h
grid_small false i c l h = (omega arith, l)

off_grid_small : (L i : ℕ) (ps : List (List Vertex)) → i + length ps ≤ 4294967296 → SmallChecked (first_off_grid L i ps)
unfolding first_off_grid
off_grid_small L i [] l = tt
off_grid_small L i (p ∷ ps) l = grid_small (all (vertex_on_grid L) p) i (first_off_grid L (i + 1) ps) (omega arith) (off_grid_small L (i + 1) ps (omega arith))

polygons_small : (edition : Edition) (L : ℕ) (ws : List ℤ) (d : Result Directory Refusal) → directory_of (polygon_file edition) ws ≡ d → SmallChecked (directory_rows d (first_off_grid L 0 (polygons_of edition ws)))
polygons_small edition L ws (Err refusal) e = let h = directory_bound (polygon_file edition) ws e in (h.0, omega (arith, h.1))
polygons_small edition L ws (Ok directory) e =
    let r = right (polygon_file edition) ws e in
    off_grid_small L 0 (polygons_of edition ws) (omega (arith, lists_length (polygon_file edition) vertex_codec ws, count_in_lem r, r.most))

pub polygon_file_small : (edition : Edition) (L : ℕ) (bytes : List ℕ) → SmallChecked (polygon_file_checked edition L bytes)
unfolding polygon_file_checked
polygon_file_small edition L bytes = size_small (file_sized (length bytes)) _ (polygons_small edition L (file_words bytes) (directory_of (polygon_file edition) (file_words bytes)) refl)

-- ---- layers
module _ (L : ℕ) (f : Format) (C : Codec ℤ Trapezoid) (ws : List ℤ) (w : C.width ≡ f.unit) (p : 0 < f.unit) (a : f.count < 4294967296) (b : f.total ≤ 4294967296) where
  layers_small : SmallChecked (layers_checked L f C ws)
  unfolding layers_checked
  layers_small = go (directory_of f ws) refl
    where
      go : (d : Result Directory Refusal) → directory_of f ws ≡ d → SmallChecked (directory_rows d (first_refusal L 0 (units_of C ws)))
      go (Err refusal) e = let h = directory_bound f ws e in (h.0, omega (arith, h.1))
      go (Ok directory) e = let r = right f ws e in small_first L 0 (units_of C ws) (omega (arith, units_are f C ws w p r, r.units))

pub layer_file_small : (L : ℕ) (bytes : List ℕ) → SmallChecked (layer_file_checked L bytes)
unfolding layer_file_checked
layer_file_small L bytes = size_small (file_sized (length bytes)) _ (layers_small L layer_file file_codec (file_words bytes) refl (omega arith) (omega arith) (omega arith))

pub layer_words_small : (L : ℕ) (ws : List ℤ) → SmallChecked (layer_words_checked L ws)
layer_words_small L ws = layers_small L layer_words trapezoid_codec ws refl (omega arith) (omega arith) (omega arith)
