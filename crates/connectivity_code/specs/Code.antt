-- What the functions require of their lists.
use Rattle.std.specs.Prelude.{◌≡◌, List, ℕ, length, ℤ}
use Rattle.lists.specs.Lists.{All}
use Rattle.records.specs.Records.{count}
use Rattle.geometry.specs.Limit.{coordinate_limit}
use Rattle.geometry.specs.Fitness.{FitFor}
use Rattle.geometry.specs.Trapezoids.{trapezoid_codec, layer_of}

-- the words of fit trapezoids, and a number for each
pub record Numbering (layer : List ℤ) (numbers : List ℕ) : Type 0 where
  pub fit : All (FitFor coordinate_limit) (layer_of layer)
  pub one_each : length numbers ≡ count trapezoid_codec layer
