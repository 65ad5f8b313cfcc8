-- Rows 5 to 11 of layers, put together from the directory and the body.
use mathlib.Core.Path.{◌≡◌, sym, ap, ◌∙◌}
use mathlib.Core.List.{List}
use Prim.Native.Nat.{ℕ, ◌+◌, ◌*◌}
use native.Mathlib.Omega.{arith}
use lib.ListN.{drop}
use lib.IntN.{ℤ}
use Rattle.records.specs.Records.{Codec, records}
use Rattle.geometry.specs.declared.Trapezoid.{Trapezoid}
use Rattle.geometry.specs.Fitness.{first_refusal}
use Rattle.files.specs.declared.Format.{Format}
use Rattle.files.specs.declared.Edition.{Edition}
use Rattle.files.specs.Formats.{polygon_file, layer_file, layer_words, Modest}
use Rattle.files.specs.Directory.{directory_of, wrong_by, right_with}
use Rattle.files.specs.Rows.{layers_checked}
use Rattle.files.proofs.Right.{right, count_in_lem}
use Rattle.geometry.specs.Refusals.{refused_by}

-- ---- the three formats are small
pub polygon_modest : (edition : Edition) → Modest (polygon_file edition)
polygon_modest edition = record { some = omega arith; unit = omega arith; count = omega arith; total = omega arith }

pub layer_modest : Modest layer_file
layer_modest = record { some = omega arith; unit = omega arith; count = omega arith; total = omega arith }

pub memory_modest : Modest layer_words
memory_modest = record { some = omega arith; unit = omega arith; count = omega arith; total = omega arith }

module _ (L : ℕ) (f : Format) (C : Codec ℤ Trapezoid) (ws : List ℤ) where
  pub layers_wrong : {number place : ℕ} → directory_of f ws ≡ wrong_by number place → refused_by number place ≡ layers_checked L f C ws
  unfolding layers_checked
  layers_wrong e = rw e

  pub layers_right : {n total : ℕ} → directory_of f ws ≡ right_with n total → {body : List ℤ} → body ≡ drop (2 * n + 1) ws
      → first_refusal L 0 (records C body) ≡ layers_checked L f C ws
  unfolding layers_checked
  layers_right e {body} p = rw e (ap (λ (b : List ℤ). first_refusal L 0 (records C b)) (p ∙ ap (λ (k : ℕ). drop (2 * k + 1) ws) (sym (count_in_lem (right f ws e)))))
