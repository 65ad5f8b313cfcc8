-- The rows of `transistors`, branch by branch.
use mathlib.Core.Path.{◌≡◌, ◌∙◌, ap}
use mathlib.Core.List.{List, ◌++◌, append_assoc}
use Prim.Native.Nat.{ℕ, ◌+◌}
use native.Mathlib.Omega.{arith}
use lib.ListN.{length, length-append}
use lib.IntN.{ℤ}
use Rattle.records.specs.Records.{count}
use Rattle.records.proofs.Records.{length_from}
use Rattle.geometry.specs.Trapezoids.{trapezoid_codec, layer_of}
use Rattle.geometry.specs.Fitness.{first_refusal}
use Rattle.calls.specs.Rows.{both_checked}
use Rattle.calls.specs.Transistors.{three_checked}
use Rattle.rows_code.proofs.Refusals.{first_passed, first_refused}
use Rattle.std.specs.Prelude.{Ok}
use Rattle.geometry.specs.Refusals.{refused_by}

-- ---- rows 7 to 11 of three layers
module _ (L : ℕ) (a b c : List ℤ) where
  in_turn : first_refusal L 0 (layer_of a ++ layer_of b ++ layer_of c) ≡ three_checked L a b c
  in_turn = ap (first_refusal L 0) (append_assoc (layer_of a) (layer_of b) (layer_of c))

  pub third_decides : both_checked L a b ≡ Ok tt → first_refusal L (count trapezoid_codec a + count trapezoid_codec b) (layer_of c) ≡ three_checked L a b c
  third_decides e =
      let m = length_from trapezoid_codec (count trapezoid_codec a) a 0 in
      let n = length_from trapezoid_codec (count trapezoid_codec b) b 0 in
      let l : count trapezoid_codec a + count trapezoid_codec b ≡ length (layer_of a ++ layer_of b) = omega (arith, length-append (layer_of a) (layer_of b), m, n) in
      ap (λ (i : ℕ). first_refusal L i (layer_of c)) l ∙ first_passed L (layer_of a ++ layer_of b) (layer_of c) e ∙ in_turn

  pub two_refuse : {n p : ℕ} → both_checked L a b ≡ refused_by n p → refused_by n p ≡ three_checked L a b c
  two_refuse e = first_refused L (layer_of a ++ layer_of b) (layer_of c) e ∙ in_turn
