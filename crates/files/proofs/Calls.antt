-- A layer file that passes.
use mathlib.Core.Path.{◌≡◌, refl, sym, subst}
use mathlib.Core.Bool.{Bool, true, false}
use mathlib.Core.List.{List}
use Prim.Native.Nat.{ℕ, ◌*◌}
use native.Mathlib.Omega.{arith}
use lib.ListN.{length}
use lib.IntN.{ℤ}
use Rattle.records.specs.Records.{Codec, words_of}
use Rattle.records.specs.Words.{word_codec}
use Rattle.records.proofs.Records.{length_words}
use Rattle.records.proofs.Words.{words_faithful}
use Rattle.geometry.specs.declared.Trapezoid.{Trapezoid}
use Rattle.geometry.specs.Trapezoids.{trapezoid_codec}
use Rattle.files.specs.declared.Format.{Format}
use Rattle.files.specs.Formats.{file_sized, file_words, layer_file, layer_words}
use Rattle.files.specs.Pairs.{count_in}
use Rattle.files.specs.Directory.{HasPairs}
use Rattle.files.specs.Contents.{file_codec}
use Rattle.files.specs.Rows.{size_row, layers_checked, layer_file_checked, layer_words_checked}
use Rattle.files.proofs.Right.{right, count_in_lem}
use Rattle.files.proofs.Bounds.{passes}
use Rattle.std.specs.Prelude.{Ok}

layers_pairs : (L : ℕ) (f : Format) (C : Codec ℤ Trapezoid) (ws : List ℤ) → layers_checked L f C ws ≡ Ok tt → HasPairs f ws (count_in ws)
layers_pairs L f C ws e = let h = passes L f C ws e in subst (HasPairs f ws) (sym (count_in_lem (right f ws h.found))) (record { total = h.total; is = h.found })

module _ (L : ℕ) (bs : List ℕ) where
  pub file_passes : layer_file_checked L bs ≡ Ok tt → (file_sized (length bs) ≡ true) × (layers_checked L layer_file file_codec (file_words bs) ≡ Ok tt)
  unfolding layer_file_checked
  file_passes e = go (file_sized (length bs)) refl e
    where
      go : (t : Bool) → file_sized (length bs) ≡ t → size_row t (layers_checked L layer_file file_codec (file_words bs)) ≡ Ok tt → (file_sized (length bs) ≡ true) × (layers_checked L layer_file file_codec (file_words bs) ≡ Ok tt)
      go true p e = (p, e)
      go false p e = let z : ◌≡◌ {A = ℕ} 0 1 = cc in absurd (omega arith)

  pub file_pairs : layer_file_checked L bs ≡ Ok tt → HasPairs layer_file (file_words bs) (count_in (file_words bs))
  file_pairs e = layers_pairs L layer_file file_codec (file_words bs) (file_passes e).1

-- ---- the writer
pub length_bytes : (ws : List ℤ) → length (words_of word_codec ws) ≡ 4 * length ws
length_bytes ws = length_words word_codec words_faithful.readable ws

pub words_pairs : (L : ℕ) (ws : List ℤ) → layer_words_checked L ws ≡ Ok tt → HasPairs layer_words ws (count_in ws)
words_pairs L ws e = layers_pairs L layer_words trapezoid_codec ws e
