-- A point lies in the result exactly if the set words say so.
use mathlib.Core.Path.{◌≡◌}
use mathlib.Core.List.{List}
use Prim.Native.Nat.{ℕ}
use Rattle.lists.specs.Lists.{All}
use Rattle.lists.proofs.Tests.{same_test}
use Rattle.geometry.specs.declared.Trapezoid.{Trapezoid}
use Rattle.geometry.specs.Points.{Point, IsPoint}
use Rattle.geometry.specs.Fitness.{FitFor}
use Rattle.geometry.specs.Trapezoids.{lies_in_layer}
use Rattle.geometry.proofs.Layers.{lies_in-layer_exact}
use Rattle.boolean.specs.Operations.{Code, result, says}
use Rattle.boolean.proofs.Results.{result_exact}

pub result_says : (L : ℕ) (A B : List Trapezoid) → All (FitFor L) A → All (FitFor L) B → (P : Point) → IsPoint P → (c : Code) → says c (lies_in_layer P A) (lies_in_layer P B) ≡ lies_in_layer P (result c A B)
result_says L A B hA hB P hP c =
    let e = result_exact L A B hA hB P hP c (lies_in_layer P A) (lies_in_layer P B) (lies_in-layer_exact P A) (lies_in-layer_exact P B) in
    let f = lies_in-layer_exact P (result c A B) in
    same_test (says c (lies_in_layer P A) (lies_in_layer P B)) (lies_in_layer P (result c A B)) (λ h. f.1 (e.0 h)) (λ h. e.1 (f.0 h))
