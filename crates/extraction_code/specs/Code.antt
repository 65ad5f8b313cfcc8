-- What the functions answer and write, by the definitions.
use Rattle.std.specs.Prelude.{◌≡◌, Bool, ◌&&◌, List, ◌⊎◌, ℕ, ◌*◌, ◌<◌, ◌≤◌, T, leb, length, replicate, ℤ, Option, Some, None}
use Rattle.records.specs.Limits.{max_records}
use Rattle.records.specs.Records.{image}
use Rattle.geometry.specs.declared.Trapezoid.{Trapezoid}
use Rattle.boolean.specs.Space.{enough, space}
use Rattle.boolean.specs.Counts.{is_no_room}
use Rattle.extraction.specs.declared.Listed.{Listed}
use Rattle.extraction.specs.Extraction.{triples, extraction_stages, triple_codec}
use Rattle.boxes_code.specs.Code.{small_words}
use Rattle.marking_code.specs.Code.{overlays_of_shapes}

-- ---- the list of n words
abbrev pub ListedAs : ℕ → List Trapezoid → List Trapezoid → List Trapezoid → ℕ → Option Listed → List ℕ → Type 0
ListedAs room C B E n None d =
    (T (is_no_room (space room (extraction_stages C B E))) ⊎ (n < 3 * length (triples C B E)))
    × (d ≡ replicate n 0)
ListedAs room C B E n (Some l) d =
    (space room (extraction_stages C B E) ≡ enough l.overlays)
    × (l.triples ≡ length (triples C B E)) × (3 * l.triples ≤ n) × (d ≡ image triple_codec n (triples C B E))

-- the sizes of the numbers
abbrev pub ListedWithin : Option Listed → Type 0
ListedWithin None = Unit {0}
ListedWithin (Some l) = (l.triples ≤ max_records) × (l.overlays ≤ 2 * overlays_of_shapes)

-- three small layers
abbrev pub all_small : List ℤ → List ℤ → List ℤ → Bool
all_small a b c = leb (length a) small_words && (leb (length b) small_words && leb (length c) small_words)
