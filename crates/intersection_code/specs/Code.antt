-- What the functions write, by the definitions.
use Rattle.std.specs.Prelude.{List, ℕ, length, ℤ, Result}
use Rattle.geometry.specs.declared.Trapezoid.{Trapezoid}
use Rattle.geometry.specs.Trapezoids.{layer_of}
use Rattle.sources.specs.Sourced.{sourced_of}
use Rattle.boolean.specs.Space.{common_stages, intersection_stages}
use Rattle.boolean.specs.Sources.{sourced_common, sourced_intersection}
use Rattle.boolean.specs.declared.Folded.{Folded}
use Rattle.boolean.specs.declared.NoRoom.{NoRoom}
use Rattle.bearing_code.specs.Code.{SourcedAs}

-- what a with the set z has in common with each of the layer with the words `layer`, and what each of the layer with the words `first` has in common with each of that
-- with the words `second`, written into a tail that was d₀
abbrev pub CommonWritten : List ℤ → ℕ → ℤ → Trapezoid → List ℤ → Result Folded NoRoom → List ℤ → Type 0
CommonWritten d₀ room z a layer r d = SourcedAs (length d₀) room (sourced_common (record { shape = a; sources = z }) (sourced_of layer)) (common_stages 0 a (layer_of layer)) r d

abbrev pub IntersectionWritten : List ℤ → ℕ → List ℤ → List ℤ → Result Folded NoRoom → List ℤ → Type 0
IntersectionWritten d₀ room first second r d = SourcedAs (length d₀) room (sourced_intersection (sourced_of first) (sourced_of second)) (intersection_stages 0 (layer_of first) (layer_of second)) r d
