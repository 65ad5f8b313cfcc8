-- What the functions write, by the definitions.
use Rattle.std.specs.Prelude.{List, ◌++◌, ℕ, length, ℤ, Result}
use Rattle.geometry.specs.Trapezoids.{layer_of}
use Rattle.sources.specs.Sourced.{sourced_of}
use Rattle.boolean.specs.Space.{difference_stages}
use Rattle.boolean.specs.Sources.{sourced_difference}
use Rattle.boolean.specs.declared.Folded.{Folded}
use Rattle.boolean.specs.declared.NoRoom.{NoRoom}
use Rattle.bearing_code.specs.Code.{SourcedAs, standing}

-- the difference of the layers with the words `first` and `second`, added past the first n trapezoids of a buffer that was d₀
abbrev pub DifferenceAdded : List ℤ → ℕ → ℕ → List ℤ → List ℤ → Result Folded NoRoom → List ℤ → Type 0
DifferenceAdded d₀ room n first second r d =
    SourcedAs (length d₀) room (standing d₀ n ++ sourced_difference (sourced_of first) (layer_of second)) (difference_stages n (layer_of first) (layer_of second)) r d
