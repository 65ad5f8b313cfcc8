-- The shapes of a layer: its connected components.
use Rattle.std.specs.Prelude.{Bool, true, false, cond, List, [], ◌∷◌, ℕ, eqb, length}
use Rattle.lists.specs.Tests.{keep}
use Rattle.geometry.specs.declared.Trapezoid.{Trapezoid}
use Rattle.connectivity.specs.Components.{own_numbers, component_numbers}

-- of trapezoids with these numbers, those that have the number k, in order
unfoldable pub having_number : ℕ → List ℕ → List Trapezoid → List Trapezoid
having_number k [] ts = []
having_number k (n ∷ ns) [] = []
having_number k (n ∷ ns) (t ∷ ts) = cond (eqb n k) (t ∷ having_number k ns ts) (having_number k ns ts)

-- "Take the components of each layer as its shapes.": the trapezoids with the component number k, in the layer's order
unfoldable pub shape_of : List Trapezoid → ℕ → List Trapezoid
shape_of ts k = having_number k (component_numbers ts) ts

abbrev pub is_some : List Trapezoid → Bool
is_some [] = false
is_some (t ∷ ts) = true

-- the component numbers of a layer, ascending: of 0 to n − 1 those that some trapezoid has
unfoldable pub shape_numbers : List Trapezoid → List ℕ
shape_numbers ts = keep (λ k. is_some (shape_of ts k)) (own_numbers (length ts))
