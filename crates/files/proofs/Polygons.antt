-- A polygon file that passes, row by row, and a vertex of a body, by its words.
use mathlib.Core.Path.{◌≡◌, refl, ap, ◌∙◌}
use mathlib.Core.Bool.{Bool, true, false}
use mathlib.Core.List.{List}
use Prim.Native.Nat.{ℕ, ◌+◌, ◌*◌}
use native.Mathlib.Omega.{arith}
use lib.ListN.{length, drop}
use lib.Seq.{get_or-take, get_or-drop}
use lib.IntN.{ℤ, pos}
use Rattle.records.specs.Records.{record_at}
use Rattle.files.specs.declared.Edition.{Edition}
use Rattle.files.specs.Formats.{file_sized, file_words, word_at, polygon_file}
use Rattle.files.specs.Directory.{directory_of, wrong_by, right_with}
use Rattle.files.specs.Contents.{vertex_of, vertex_codec, polygons_of}
use Rattle.files.specs.Rows.{size_row, directory_rows, first_off_grid, polygon_file_checked}
use Rattle.std.specs.Prelude.{Result, Ok, Err}
use Rattle.geometry.specs.declared.Refusal.{Refusal}
use Rattle.geometry.specs.Refusals.{refused_by}
use Rattle.files.specs.declared.Directory.{Directory}

module _ (edition : Edition) (L : ℕ) (bs : List ℕ) where
  -- rows 4 to 7 find nothing
  pub record PolygonFilePasses : Type 0 where
    pub size : file_sized (length bs) ≡ true
    pub pairs : ℕ
    pub total : ℕ
    pub found : directory_of (polygon_file edition) (file_words bs) ≡ right_with pairs total
    pub grid : first_off_grid L 0 (polygons_of edition (file_words bs)) ≡ Ok tt

  pub polygon_file_passes : polygon_file_checked edition L bs ≡ Ok tt → PolygonFilePasses
  unfolding polygon_file_checked
  polygon_file_passes e = sized (file_sized (length bs)) refl e
    where
      rest : file_sized (length bs) ≡ true → (d : Result Directory Refusal) → directory_of (polygon_file edition) (file_words bs) ≡ d → directory_rows d (first_off_grid L 0 (polygons_of edition (file_words bs))) ≡ Ok tt
          → PolygonFilePasses
      rest s (Err refusal) p e = let z : ◌≡◌ {A = ℕ} 0 1 = cc in absurd (omega arith)
      rest s (Ok directory) p e = record { size = s; pairs = directory.count; total = directory.total; found = p; grid = e }

      sized : (t : Bool) → file_sized (length bs) ≡ t → size_row t (directory_rows (directory_of (polygon_file edition) (file_words bs)) (first_off_grid L 0 (polygons_of edition (file_words bs)))) ≡ Ok tt
          → PolygonFilePasses
      sized true s e = rest s (directory_of (polygon_file edition) (file_words bs)) refl e
      sized false s e = let z : ◌≡◌ {A = ℕ} 0 1 = cc in absurd (omega arith)

  module _ (s : file_sized (length bs) ≡ true) where
    pub polygons_right : {n total : ℕ} → directory_of (polygon_file edition) (file_words bs) ≡ right_with n total → first_off_grid L 0 (polygons_of edition (file_words bs)) ≡ Ok tt → polygon_file_checked edition L bs ≡ Ok tt
    unfolding polygon_file_checked
    polygons_right d g = rw (s, d) g

    pub polygons_wrong : {number place : ℕ} → directory_of (polygon_file edition) (file_words bs) ≡ wrong_by number place → polygon_file_checked edition L bs ≡ refused_by number place
    unfolding polygon_file_checked
    polygons_wrong d = rw (s, d)

-- a vertex's two words
pub vertex-at : (ws : List ℤ) (i : ℕ) → record_at vertex_codec ws i ≡ record { x = word_at ws (2 * i); y = word_at ws (2 * i + 1) }
unfolding record_at vertex_of
vertex-at ws i =
    let e : 2 * i + 0 ≡ 2 * i = omega arith in
    let p = get_or-take 2 (drop (2 * i) ws) 0 (pos 0) (omega arith) ∙ get_or-drop (2 * i) ws 0 (pos 0) ∙ ap (word_at ws) e in
    let q = get_or-take 2 (drop (2 * i) ws) 1 (pos 0) (omega arith) ∙ get_or-drop (2 * i) ws 1 (pos 0) in
    λ j. record { x = p j; y = q j }
