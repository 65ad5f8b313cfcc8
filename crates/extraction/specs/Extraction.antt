-- The triples of collector, base and emitter, and the differences that are made to find them.
use Rattle.std.specs.Prelude.{Bool, true, false, not, ◌&&◌, List, [], ◌∷◌, ◌++◌, ℕ, get_or}
use Rattle.lists.specs.Lists.{each}
use Rattle.records.specs.Records.{Codec}
use Rattle.geometry.specs.declared.Trapezoid.{Trapezoid}
use Rattle.boolean.specs.Operations.{difference}
use Rattle.boolean.specs.Space.{Stage, difference_stages}
use Rattle.extraction.specs.Shapes.{shape_of, is_some, shape_numbers}

-- "A shape encloses another if the other minus it is empty."
unfoldable pub shape_encloses : List Trapezoid → List Trapezoid → Bool
shape_encloses A B = not (is_some (difference B A))

-- of two layers: the shape of the first with number i encloses that of the second with number j
abbrev pub encloses_at : List Trapezoid → List Trapezoid → ℕ → ℕ → Bool
encloses_at ts us i j = shape_encloses (shape_of ts i) (shape_of us j)

-- "by its three component numbers, each counted within its own layer"
pub record Triple : Type 0 where
  pub collector : ℕ
  pub base : ℕ
  pub emitter : ℕ

abbrev pub triple_if : Bool → ℕ → ℕ → ℕ → List Triple
triple_if true c b e = record { collector = c; base = b; emitter = e } ∷ []
triple_if false c b e = []

-- "List each triple (collector, base, emitter), where collector encloses base and base encloses emitter, […] triples ascending by collector, then
-- base, then emitter."
unfoldable pub triples : List Trapezoid → List Trapezoid → List Trapezoid → List Triple
triples C B E =
    each (λ c. each (λ b. each (λ e. triple_if (encloses_at C B c b && encloses_at B E b e) c b e)
    (shape_numbers E)) (shape_numbers B)) (shape_numbers C)

-- the differences of each shape of the first layer with each of the second, "each begun with nothing kept from the one before"
unfoldable pub enclosing_stages : List Trapezoid → List Trapezoid → List Stage
enclosing_stages ts us = each (λ i. each (λ j. difference_stages 0 (shape_of us j) (shape_of ts i)) (shape_numbers us)) (shape_numbers ts)

-- "The differences run for each collector with each base, then each base with each emitter": none is left out. What they need and how many
-- overlays they make is told by `space` as of any operation's stages, so there is no room exactly if some difference has none.
abbrev pub extraction_stages : List Trapezoid → List Trapezoid → List Trapezoid → List Stage
extraction_stages C B E = enclosing_stages C B ++ enclosing_stages B E

-- ---- a triple in a list of words: three of them
abbrev pub triple_words : Triple → List ℕ
triple_words t = t.collector ∷ t.base ∷ t.emitter ∷ []

unfoldable pub triple_of : List ℕ → Triple
triple_of ns = record { collector = get_or ns 0 0; base = get_or ns 1 0; emitter = get_or ns 2 0 }

abbrev pub triple_codec : Codec ℕ Triple
triple_codec = record { width = 3; blank = 0; encode = triple_words; decode = triple_of }
