-- What the set operations write, by the definitions.
use Rattle.std.specs.Prelude.{List, ℕ, length, ℤ, Result}
use Rattle.geometry.specs.Trapezoids.{layer_of}
use Rattle.sources.specs.Sourced.{sourced_of}
use Rattle.boolean.specs.declared.Folded.{Folded}
use Rattle.boolean.specs.Operations.{Code}
use Rattle.boolean.specs.Sources.{sourced_result}
use Rattle.boolean.specs.Space.{stages}
use Rattle.boolean.specs.declared.NoRoom.{NoRoom}
use Rattle.bearing_code.specs.Code.{SourcedAs}

-- the result of a code on the layers with the words a and b, written into a buffer that was d₀
abbrev pub ResultWritten : Code → List ℤ → ℕ → List ℤ → List ℤ → Result Folded NoRoom → List ℤ → Type 0
ResultWritten code d₀ room a b r d = SourcedAs (length d₀) room (sourced_result code (sourced_of a) (sourced_of b)) (stages code (layer_of a) (layer_of b)) r d
