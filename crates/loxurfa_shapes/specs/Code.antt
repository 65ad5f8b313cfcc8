-- What is seen of `components` once rows 1 to 11 have let it pass: what row 13 and then the numbering make of it.
use Rattle.std.specs.Prelude.{◌≡◌, List, ℕ, ℤ}
use Rattle.geometry.specs.Trapezoids.{layer_of}
use Rattle.overlay.specs.Overlaps.{first_overlap}
use Rattle.connectivity.specs.Components.{component_numbers, component_count}
use Rattle.calls.specs.declared.Connected.{Connected}
use Rattle.calls.specs.Components.{connected_answer, counted, observed_components, count_outcome}

abbrev pub ComponentsSearched : List ℤ → List ℕ → Connected → List ℕ → Type 0
ComponentsSearched a numbers answer numbers_then =
    observed_components (connected_answer answer) numbers_then
    ≡ count_outcome (first_overlap 0 (layer_of a)) (observed_components (counted (component_count (layer_of a))) (component_numbers (layer_of a))) numbers
