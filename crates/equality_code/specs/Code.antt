-- What the equality test answers, by the definitions.
use Rattle.std.specs.Prelude.{◌≡◌, List, [], ℕ, ◌≤◌}
use Rattle.geometry.specs.declared.Trapezoid.{Trapezoid}
use Rattle.boolean.specs.declared.Compared.{Compared}
use Rattle.boolean.specs.declared.Compared.TheVariants.{NoRoom, Same, Differs}
use Rattle.boolean.specs.Operations.{difference, OperandOf}
use Rattle.boolean.specs.Space.{enough, no_room, space, difference_stages, equality_stages}
use Rattle.remainder_code.specs.Code.{overlays_of_layer}

abbrev pub ComparedAs : ℕ → List Trapezoid → List Trapezoid → Compared → Type 0
ComparedAs room A B (NoRoom overlays) = space room (equality_stages A B) ≡ no_room overlays
ComparedAs room A B (Same overlays) = (space room (equality_stages A B) ≡ enough overlays) × (difference A B ≡ []) × (difference B A ≡ [])
ComparedAs room A B (Differs operand overlays) = (space room (equality_stages A B) ≡ enough overlays) × OperandOf (difference A B) (difference B A) operand

abbrev pub ComparedWithin : ℕ → Compared → Type 0
ComparedWithin m (NoRoom overlays) = overlays ≤ m
ComparedWithin m (Same overlays) = overlays ≤ m
ComparedWithin m (Differs operand overlays) = overlays ≤ m

-- nothing is left of A minus B, which took `made` overlays and had room
abbrev pub NothingLeft : ℕ → List Trapezoid → List Trapezoid → ℕ → Type 0
NothingLeft room A B made = (difference A B ≡ []) × (space room (difference_stages 0 A B) ≡ enough made) × (made ≤ overlays_of_layer)
