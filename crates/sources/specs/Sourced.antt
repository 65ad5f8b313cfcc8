-- "Each piece in memory gets a 25th word": trapezoids with the sets of their source layers.
use Rattle.std.specs.Prelude.{List, [], ◌∷◌, ◌++◌, map, ℕ, ◌+◌, ◌*◌, ℤ, pos, get_or}
use Rattle.records.specs.Limits.{file_width, memory_width}
use Rattle.records.specs.Records.{Codec, records}
use Rattle.geometry.specs.declared.Trapezoid.{Trapezoid}
use Rattle.geometry.specs.Trapezoids.{trapezoid_of, trapezoid_words}

-- a trapezoid in memory: its lines, and the word with the set of its source layers
pub record Sourced : Type 0 where
  pub shape : Trapezoid
  pub sources : ℤ

-- the 24 words of the lines, and then the set
abbrev pub sourced_codec : Codec ℤ Sourced
sourced_codec =
    record {
      width = memory_width;
      blank = pos 0;
      encode = λ r. trapezoid_words r.shape ++ (r.sources ∷ []);
      decode = λ s. record { shape = trapezoid_of s; sources = get_or s file_width (pos 0) };
    }

-- the trapezoids of a layer's words, with their sets; without them they are `layer_of`
abbrev pub sourced_of : List ℤ → List Sourced
sourced_of s = records sourced_codec s

-- the set of number i of a layer's words
abbrev pub sources_at : List ℤ → ℕ → ℤ
sources_at s i = get_or s (memory_width * i + file_width) (pos 0)

-- trapezoids without their sets
abbrev pub shapes : List Sourced → List Trapezoid
shapes rs = map (λ (r : Sourced). r.shape) rs

-- trapezoids that all have the set z
abbrev pub bearing : ℤ → List Trapezoid → List Sourced
bearing z ts = map (λ (t : Trapezoid). record { shape = t; sources = z }) ts
