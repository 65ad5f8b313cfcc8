-- The polygons of a file, fractured one after the other.
use Rattle.std.specs.Prelude.{Option, Some, None, Ok}
use mathlib.Core.Path.{◌≡◌, refl, ◌∙◌, ap, subst}
use mathlib.Core.List.{List, ◌∷◌, ◌++◌}
use Prim.Native.Nat.{ℕ, suc, ◌+◌, ◌*◌, ◌-◌, ◌<◌, ◌≤◌}
use native.Mathlib.Omega.{arith}
use lib.ListN.{length}
use lib.IntN.{ℤ}
use borrow.Rule.Slice.PartMut.{put_mid}
use Rattle.lists.specs.Lists.{All}
use Rattle.records.specs.Limits.{memory_width}
use Rattle.geometry.specs.declared.Vertex.{Vertex}
use Rattle.geometry.specs.Polygons.{Polygon, PolygonOnGrid}
use Rattle.fracture.specs.Fracture.{fracture, fracture_all}
use Rattle.files.specs.declared.Edition.{Edition}
use Rattle.files.specs.Formats.{file_words, polygon_file}
use Rattle.files.specs.Pairs.{count_in}
use Rattle.files.specs.Contents.{lists_from, vertex_codec, polygons_of}
use Rattle.files.specs.Rows.{polygon_file_checked}
use Rattle.files.proofs.Pairs.{checked_pairs, lists_by_offset}
use Rattle.files.proofs.Grid.{checked_grid}
use Rattle.trapezoids_code.specs.Tails.{Borrowed, FilledAs}
use Rattle.trapezoids_code.proofs.Writing.{tail, Writing, write_start, write_stop, write_full, write_upto, write_turn}
use Rattle.files_code.specs.Code.{polygon_at}

-- ---- one polygon after the other
-- the polygons from number i on
abbrev left : Edition → List ℤ → ℕ → List Polygon
left edition ws i = lists_from (polygon_file edition) vertex_codec ws (count_in ws - i) i

left_step : (edition : Edition) (ws : List ℤ) (i : ℕ) → i < count_in ws → left edition ws i ≡ polygon_at edition ws i ∷ left edition ws (i + 1)
unfolding lists_from
left_step edition ws i l = let e : count_in ws - i ≡ suc (count_in ws - (i + 1)) = omega arith in ap (λ (n : ℕ). lists_from (polygon_file edition) vertex_codec ws n i) e

-- the polygons before number i have been cut
pub record Cutting (edition : Edition) (L : ℕ) (ws : List ℤ) (W room : ℕ) (out : List ℤ) (i n : ℕ) : Type 0 where
  pub writing : Writing W room (fracture_all L (polygons_of edition ws)) (fracture_all L (left edition ws i)) out n
  pub grid : All (PolygonOnGrid L) (left edition ws i)
  pub within : i ≤ count_in ws

pub cutting_start : (edition : Edition) (L : ℕ) (bytes : List ℕ) (out : List ℤ) (room : ℕ) → polygon_file_checked edition L bytes ≡ Ok tt → Borrowed out room → Cutting edition L (file_words bytes) (length out) room out 0 0
cutting_start edition L bytes out room e b =
    let ws = file_words bytes in
    let z : count_in ws ≡ count_in ws - 0 = omega arith in
    let s : polygons_of edition ws ≡ left edition ws 0 = lists_by_offset Vertex (polygon_file edition) vertex_codec ws (count_in ws) refl (omega arith) (checked_pairs edition L bytes e) ∙ ap (λ (n : ℕ). lists_from (polygon_file edition) vertex_codec ws n 0) z in
    record {
      writing = subst (λ (ps : List Polygon). Writing (length out) room (fracture_all L (polygons_of edition ws)) (fracture_all L ps) out 0) s (write_start (fracture_all L (polygons_of edition ws)) out room b);
      grid = subst (All (PolygonOnGrid L)) s (checked_grid edition L bytes e);
      within = omega arith;
    }

module _ {edition : Edition} {L : ℕ} {ws : List ℤ} {W room : ℕ} {out : List ℤ} {i n : ℕ} (h : Cutting edition L ws W room out i n) where
  pub cutting_stop : count_in ws ≤ i → FilledAs W room (fracture_all L (polygons_of edition ws)) (Some n) out
  unfolding lists_from fracture_all
  cutting_stop l =
      let z : count_in ws - i ≡ 0 = omega arith in
      write_stop h.writing (ap (λ (m : ℕ). fracture_all L (lists_from (polygon_file edition) vertex_codec ws m i)) z)

  module _ (l : i < count_in ws) where
    here : All (PolygonOnGrid L) (polygon_at edition ws i ∷ left edition ws (i + 1))
    here = subst (All (PolygonOnGrid L)) (left_step edition ws i l) h.grid

    pub cutting_grid : PolygonOnGrid L (polygon_at edition ws i)
    cutting_grid = here.0

    turn : fracture_all L (left edition ws i) ≡ fracture L (polygon_at edition ws i) ++ fracture_all L (left edition ws (i + 1))
    unfolding fracture_all
    turn = ap (fracture_all L) (left_step edition ws i l)

    module _ (f : Option ℕ) (t : List ℤ) (g : FilledAs (length (tail out n)) (room - n) (fracture L (polygon_at edition ws i)) f t) where
      pub cutting_full : f ≡ None → room < length (fracture_all L (polygons_of edition ws))
      cutting_full e = write_full h.writing (fracture L (polygon_at edition ws i)) (fracture_all L (left edition ws (i + 1))) turn f t g e

      pub cutting_upto : (m : ℕ) → f ≡ Some m → n + m ≤ room
      cutting_upto m e = write_upto h.writing (fracture L (polygon_at edition ws i)) (fracture_all L (left edition ws (i + 1))) turn f t g m e

      pub cutting_next : (m : ℕ) → f ≡ Some m → Cutting edition L ws W room (put_mid (memory_width * n) (length out - memory_width * n) out t) (i + 1) (n + m)
      cutting_next m e =
          record {
            writing = write_turn h.writing (fracture L (polygon_at edition ws i)) (fracture_all L (left edition ws (i + 1))) turn f t g m e;
            grid = here.1;
            within = omega arith;
          }
