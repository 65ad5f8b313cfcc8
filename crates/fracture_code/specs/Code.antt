-- A column's groups by number, and the trapezoids between them.
use Rattle.std.specs.Prelude.{◌≡◌, List, [], ◌∷◌, map, ℕ, ◌<◌, ◌≤◌, length, take, ℤ, pos, nat_abs}
use Rattle.std.proofs.Math.Option.{none}
use Rattle.lists.specs.Lists.{All}
use Rattle.geometry.specs.declared.Base.{Base}
use Rattle.geometry.specs.declared.Trapezoid.{Trapezoid}
use Rattle.geometry.specs.Lines.{IsLine}
use Rattle.geometry.specs.Positions.{position}
use Rattle.sweep.specs.Segments.{spanning}
use Rattle.sweep.specs.Columns.{Slab}
use Rattle.sorting.specs.Weighed.{Weighed, running}
use Rattle.fracture.specs.Polygons.{Edge, segment}
use Rattle.fracture.specs.Fracture.{trapezoids}
use Rattle.polygon_edges_code.specs.Edges.{line_number, stored_edges}

-- ---- a column
abbrev pub HasLines : ℕ → List ℤ → List ℤ → Type 0
HasLines n ls ts = All (λ (e : Edge). IsLine e.line) (stored_edges n ls ts)

-- the trapezoids between the events p and q
abbrev pub column_of : ℕ → List ℤ → List ℤ → Base → Base → List Trapezoid
column_of n ls ts p q = trapezoids p q (spanning segment (position p) (stored_edges n ls ts))

-- ---- groups by number
abbrev pub weighed_numbers : List ℕ → List ℤ → List (Weighed ℕ)
weighed_numbers [] ws = []
weighed_numbers (k ∷ ks) [] = []
weighed_numbers (k ∷ ks) (w ∷ ws) = record { item = k; weight = w } ∷ weighed_numbers ks ws

-- from line number i up to line number j
abbrev pub between : List ℤ → Base → Base → ℕ → ℕ → Trapezoid
between ls p q i j = record { left = p; right = q; bottom = line_number ls i; top = line_number ls j }

abbrev pub slab_between : List ℤ → Base → Base → Slab ℕ → Trapezoid
slab_between ls p q s = between ls p q s.bottom s.top

-- the trapezoids of the first m groups, by the running sum
abbrev pub stack : List ℤ → Base → Base → ℕ → List ℕ → List ℤ → List Trapezoid
stack ls p q m ks ws = map (slab_between ls p q) (running (pos 0) none (weighed_numbers (take m ks) (take m ws)))

-- the first m groups can be summed up
pub record Summable (ls : List ℤ) (m : ℕ) (ks : List ℕ) (ws : List ℤ) : Type 0 where
  pub lines : length ls ≡ 128
  pub few : m ≤ 32
  pub keys : length ks ≡ 32
  pub weights : length ws ≡ 32
  pub within : All (λ (k : ℕ). k < 32) (take m ks)
  pub light : All (λ (w : ℤ). nat_abs w ≤ 64) (take m ws)
