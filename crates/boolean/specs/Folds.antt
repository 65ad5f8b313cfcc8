-- What a fold answers, from its numbers.
use Rattle.std.specs.Prelude.{ℕ, Result, Ok, Err}
use Rattle.boolean.specs.declared.Folded.{Folded}
use Rattle.boolean.specs.declared.NoRoom.{NoRoom}

abbrev pub folded : ℕ → ℕ → Result Folded NoRoom
folded trapezoids overlays = Ok (record { trapezoids = trapezoids; overlays = overlays })

abbrev pub no_room_after : ℕ → Result Folded NoRoom
no_room_after overlays = Err (record { overlays = overlays })
