-- A layer's trapezoids by their component numbers, and the shapes that they are cut into.
use Rattle.std.specs.Prelude.{◌≡◌, List, [], ◌++◌, ℕ, zero, suc, ◌*◌, ◌-◌, ◌<◌, ◌≤◌, length, take, drop, get_or, ℤ}
use Rattle.records.specs.Limits.{memory_width, max_records}
use Rattle.records.specs.Records.{count, image}
use Rattle.geometry.specs.declared.Trapezoid.{Trapezoid}
use Rattle.geometry.specs.Trapezoids.{trapezoid_codec, layer_of}
use Rattle.extraction.specs.Shapes.{having_number, shape_of}
use Rattle.boxes_code.specs.Code.{BoxedLayer}

-- ---- trapezoids by their numbers
-- of trapezoids with these numbers, those with numbers below k, the lowest number first
unfoldable pub groups_below : ℕ → List ℕ → List Trapezoid → List Trapezoid
groups_below zero ns ts = []
groups_below (suc k) ns ts = groups_below k ns ts ++ having_number k ns ts

-- a buffer for the trapezoids of a layer's words, which have these numbers, holds the n with numbers below k, and is blank past them
pub record GroupedBelow (k : ℕ) (layer : List ℤ) (ns : List ℕ) (n : ℕ) (d : List ℤ) : Type 0 where
  pub one_each : length ns ≡ count trapezoid_codec layer
  pub wide : length d ≡ memory_width * length ns
  pub is : d ≡ image trapezoid_codec (length d) (groups_below k ns (layer_of layer))
  pub many : n ≡ length (groups_below k ns (layer_of layer))

-- it holds them all, and `ends` has for each number how many have it or a lower one
pub record GroupedAs (layer : List ℤ) (ns ends : List ℕ) (d : List ℤ) : Type 0 where
  pub all : GroupedBelow (length ns) layer ns (length (groups_below (length ns) ns (layer_of layer))) d
  pub one_each : length ends ≡ length ns
  pub each : (k : ℕ) → k < length ns → get_or ends k 0 ≡ length (groups_below (suc k) ns (layer_of layer))

-- ---- a list of trapezoids cut into groups: group k ends before number `ends k`, and begins where the one before it ends
abbrev pub start_of : List ℕ → ℕ → ℕ
start_of ends zero = 0
start_of ends (suc k) = get_or ends k 0

-- from number a to before number e
abbrev pub trapezoids_between : ℕ → ℕ → List Trapezoid → List Trapezoid
trapezoids_between a e ts = take (e - a) (drop a ts)

unfoldable pub group_at : List ℕ → List Trapezoid → ℕ → List Trapezoid
group_at ends ts k = trapezoids_between (start_of ends k) (get_or ends k 0) ts

-- such ends of the words of fit trapezoids, with the box of each
pub record Groups (ends : List ℕ) (s d : List ℤ) : Type 0 where
  pub boxed : BoxedLayer s d
  pub few : length ends ≤ max_records
  pub rises : (k : ℕ) → k < length ends → start_of ends k ≤ get_or ends k 0
  pub within : (k : ℕ) → k < length ends → get_or ends k 0 ≤ count trapezoid_codec s

-- the groups are the shapes of the layer ts: group k has the component number k, and has no trapezoids where there is none
pub record ShapesIn (ts : List Trapezoid) (ends : List ℕ) (s d : List ℤ) : Type 0 where
  pub groups : Groups ends s d
  pub one_each : length ends ≡ length ts
  pub each : (k : ℕ) → k < length ts → group_at ends (layer_of s) k ≡ shape_of ts k
