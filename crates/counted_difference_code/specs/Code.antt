-- What the function answers, by the definitions.
use Rattle.std.specs.Prelude.{◌≡◌, List, ℕ, length, Result, Ok, Err}
use Rattle.geometry.specs.declared.Trapezoid.{Trapezoid}
use Rattle.boolean.specs.Operations.{difference}
use Rattle.boolean.specs.declared.Folded.{Folded}
use Rattle.boolean.specs.Space.{enough, no_room, space, difference_stages}
use Rattle.boolean.specs.declared.NoRoom.{NoRoom}

-- of A minus B in a room: there was no room after so many overlays, or it has so many trapezoids
abbrev pub DifferenceCounted : ℕ → List Trapezoid → List Trapezoid → Result Folded NoRoom → Type 0
DifferenceCounted room A B (Err r) = space room (difference_stages 0 A B) ≡ no_room r.overlays
DifferenceCounted room A B (Ok f) = (space room (difference_stages 0 A B) ≡ enough f.overlays) × (f.trapezoids ≡ length (difference A B))
