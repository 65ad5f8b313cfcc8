-- Trapezoids written into a borrowed tail.
use Rattle.std.specs.Prelude.{◌≡◌, List, ◌∷◌, Bool, true, false, ℕ, ◌*◌, ◌<◌, ◌≤◌, length, replicate, ℤ, pos, Option, Some, None}
use Rattle.records.specs.Limits.{memory_width}
use Rattle.records.specs.Records.{Codec, image, Blank}
use Rattle.geometry.specs.declared.Trapezoid.{Trapezoid}
use Rattle.geometry.specs.Trapezoids.{trapezoid_codec}

-- the tail is blank, and `room` trapezoids fit into it
pub record Borrowed (d : List ℤ) (room : ℕ) : Type 0 where
  pub blank : Blank (pos 0) d
  pub wide : memory_width * room ≤ length d

-- of a tail of n words, and values kept as C keeps them: it holds rs and is blank past them, or they do not fit and it is blank
abbrev pub FilledBy : {R : Type 0} → Codec ℤ R → ℕ → ℕ → List R → Option ℕ → List ℤ → Type 0
FilledBy C n room rs None d = (room < length rs) × (d ≡ replicate n (pos 0))
FilledBy C n room rs (Some k) d = (k ≡ length rs) × (length rs ≤ room) × (d ≡ image C n rs)

-- of trapezoids, with empty sets
abbrev pub FilledAs : ℕ → ℕ → List Trapezoid → Option ℕ → List ℤ → Type 0
FilledAs n room ts f d = FilledBy trapezoid_codec n room ts f d

-- t before ts, if the test says so
abbrev pub in_front : Bool → Trapezoid → List Trapezoid → List Trapezoid
in_front true t ts = t ∷ ts
in_front false t ts = ts
