-- What the functions write, by the definitions.
use Rattle.std.specs.Prelude.{List, [], ℕ, ◌*◌, ◌≤◌, length, ℤ, pos, Result}
use Rattle.records.specs.Limits.{memory_width}
use Rattle.records.specs.Records.{Blank}
use Rattle.geometry.specs.Trapezoids.{layer_of}
use Rattle.sources.specs.Sourced.{sourced_of}
use Rattle.boolean.specs.Space.{deoverlapped_stages}
use Rattle.boolean.specs.Sources.{sourced_deoverlapped}
use Rattle.boolean.specs.declared.Folded.{Folded}
use Rattle.boolean.specs.declared.NoRoom.{NoRoom}
use Rattle.remainder_code.specs.Code.{rest}
use Rattle.bearing_code.specs.Code.{SourcedAs}

-- a buffer that takes `room` trapezoids is blank past its first k
pub record BlankPast (d : List ℤ) (k room : ℕ) : Type 0 where
  pub blank : Blank (pos 0) (rest d k)
  pub within : k ≤ room
  pub wide : memory_width * room ≤ length d

-- the layer with the words `layer` without overlaps, written into a buffer that was d₀
abbrev pub DeoverlappedWritten : List ℤ → ℕ → List ℤ → Result Folded NoRoom → List ℤ → Type 0
DeoverlappedWritten d₀ room layer r d = SourcedAs (length d₀) room (sourced_deoverlapped (sourced_of layer)) (deoverlapped_stages [] (layer_of layer)) r d
