-- Sets written over those of the trapezoids that a fold has written.
use Rattle.std.specs.Prelude.{◌≡◌, List, [], ◌∷◌, ℕ, ◌*◌, ◌≤◌, length, ℤ, Result, Ok, Err}
use Rattle.records.specs.Limits.{memory_width}
use Rattle.records.specs.Records.{records_from, image}
use Rattle.geometry.specs.declared.Trapezoid.{Trapezoid}
use Rattle.sources.specs.Sourced.{Sourced, sourced_codec, bearing}
use Rattle.boolean.specs.declared.Folded.{Folded}
use Rattle.boolean.specs.Operations.{minus_all}
use Rattle.boolean.specs.Space.{Stage, one_stages}
use Rattle.boolean.specs.declared.NoRoom.{NoRoom}
use Rattle.sources_code.specs.Code.{with_sources}
use Rattle.remainder_code.specs.Code.{FoldedBy}

-- what a fold has written fits into n words
abbrev pub Fits : Result Folded NoRoom → ℕ → Type 0
Fits (Err r) n = Unit {0}
Fits (Ok f) n = memory_width * f.trapezoids ≤ n

-- the words d with z as the set of each trapezoid that a fold has written
abbrev pub borne : Result Folded NoRoom → ℤ → List ℤ → List ℤ
borne (Err r) z d = d
borne (Ok f) z d = with_sources z f.trapezoids d

-- of a tail of n words: it holds trapezoids with their sets, the result of a fold with these stages
abbrev pub SourcedAs : ℕ → ℕ → List Sourced → List Stage → Result Folded NoRoom → List ℤ → Type 0
SourcedAs n room rs ms r d = FoldedBy sourced_codec n room rs ms r d

-- the first n trapezoids of a buffer, with their sets
abbrev pub standing : List ℤ → ℕ → List Sourced
standing d n = records_from sourced_codec n d 0

-- a buffer that takes `room` trapezoids holds n of them, with their sets, and is blank past them
pub record Holding (d : List ℤ) (n room : ℕ) : Type 0 where
  pub is : d ≡ image sourced_codec (length d) (standing d n)
  pub within : n ≤ room
  pub wide : memory_width * room ≤ length d

-- one trapezoid a with the set z minus all of bs and added, written into a tail that was d₀
abbrev pub OneBearing : List ℤ → ℕ → ℤ → Trapezoid → List Trapezoid → Result Folded NoRoom → List ℤ → Type 0
OneBearing d₀ room z a bs r d = SourcedAs (length d₀) room (bearing z (minus_all (a ∷ []) bs)) (one_stages 0 a bs) r d
