-- What is proved of the shapes, the triples and the differences, for layers of trapezoids that are fit for any coordinate limit L. Each statement is
-- proved under its name in lower case.
use Rattle.std.specs.Prelude.{◌≡◌, List, ◌⊎◌, ◌↔◌, ℕ, ◌*◌, ◌<◌, ◌≤◌, T, length}
use Rattle.lists.specs.Lists.{All, Member, Pairs}
use Rattle.lists.specs.Tests.{total}
use Rattle.geometry.specs.declared.Trapezoid.{Trapezoid}
use Rattle.geometry.specs.Points.{Point, IsPoint}
use Rattle.geometry.specs.Trapezoids.{LiesInLayer}
use Rattle.geometry.specs.Fitness.{FitFor}
use Rattle.boolean.specs.Counts.{all_overlays, count_difference}
use Rattle.connectivity.specs.Components.{component_numbers, component_count}
use Rattle.extraction.specs.Shapes.{shape_of, shape_numbers}
use Rattle.extraction.specs.Extraction.{shape_encloses, Triple, triples, enclosing_stages}

-- ---- shapes
-- a component number of the layer
abbrev pub IsShape : List Trapezoid → ℕ → Type 0
IsShape ts k = Member k (component_numbers ts)

-- the numbers of the shapes are the component numbers, ascending, and as many as components
pub record ShapesOf (ts : List Trapezoid) (ks : List ℕ) : Type 0 where
  pub exact : (k : ℕ) → Member k ks ↔ IsShape ts k
  pub ascending : Pairs ◌<◌ ks
  pub many : length ks ≡ component_count ts

abbrev pub ShapesExact : Type 0
ShapesExact = (L : ℕ) (ts : List Trapezoid) → All (FitFor L) ts → ShapesOf ts (shape_numbers ts)

-- ---- enclosing
-- every rational point of B lies in A
abbrev pub ShapeEncloses : List Trapezoid → List Trapezoid → Type 0
ShapeEncloses A B = (P : Point) → IsPoint P → LiesInLayer P B → LiesInLayer P A

-- the test says yes exactly if it does
abbrev pub EnclosesExact : Type 0
EnclosesExact = (L : ℕ) (A B : List Trapezoid) → All (FitFor L) A → All (FitFor L) B → T (shape_encloses A B) ↔ ShapeEncloses A B

-- no shape lies in two shapes of one layer: no base in two collectors, no emitter in two bases
abbrev pub OneEncloses : Type 0
OneEncloses =
    (L : ℕ) (ts us : List Trapezoid) → All (FitFor L) ts → All (FitFor L) us → (i j k : ℕ) → IsShape us k
    → ShapeEncloses (shape_of ts i) (shape_of us k) → ShapeEncloses (shape_of ts j) (shape_of us k) → i ≡ j

-- ---- the triples
-- "ascending by collector, then base, then emitter"
abbrev pub Before : Triple → Triple → Type 0
Before s t =
    (s.collector < t.collector)
    ⊎ ((s.collector ≡ t.collector) × ((s.base < t.base) ⊎ ((s.base ≡ t.base) × (s.emitter < t.emitter))))

-- c, b and e are component numbers, each of its own layer; every rational point of the base's shape lies in the collector's, and every one of the
-- emitter's in the base's
pub record Transistor (C B E : List Trapezoid) (t : Triple) : Type 0 where
  pub collector : IsShape C t.collector
  pub base : IsShape B t.base
  pub emitter : IsShape E t.emitter
  pub base_inside : ShapeEncloses (shape_of C t.collector) (shape_of B t.base)
  pub emitter_inside : ShapeEncloses (shape_of B t.base) (shape_of E t.emitter)

pub record TransistorsOf (C B E : List Trapezoid) (ts : List Triple) : Type 0 where
  -- "Every such triple is listed […] and nothing else is."
  pub exact : (t : Triple) → Member t ts ↔ Transistor C B E t
  -- "once", and in order: each comes before all after it
  pub ascending : Pairs Before ts
  -- there are at most as many as emitters
  pub few : length ts ≤ component_count E

abbrev pub TransistorsExact : Type 0
TransistorsExact = (L : ℕ) (C B E : List Trapezoid) → All (FitFor L) C → All (FitFor L) B → All (FitFor L) E → TransistorsOf C B E (triples C B E)

-- ---- the number of overlays
-- the sum over all differences
abbrev pub EnclosingOverlays : Type 0
EnclosingOverlays =
    (ts us : List Trapezoid)
    → all_overlays (enclosing_stages ts us) ≡ total (λ i. total (λ j. count_difference (shape_of us j) (shape_of ts i)) (shape_numbers us)) (shape_numbers ts)

-- shapes that no rational point has in common: the trapezoids of the one times those of the other
abbrev pub ApartOverlays : Type 0
ApartOverlays =
    (L : ℕ) (A B : List Trapezoid) → All (FitFor L) A → All (FitFor L) B → ((P : Point) → IsPoint P → LiesInLayer P A → LiesInLayer P B → ⊥)
    → count_difference A B ≡ length A * length B
