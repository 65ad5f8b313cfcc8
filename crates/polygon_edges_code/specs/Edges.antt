-- The edges of a polygon in slices, four words of each line, and four numbers of each edge: dx, dy and offset of its line, and its direction.
use Rattle.std.specs.Prelude.{◌≡◌, List, [], ◌∷◌, ◌++◌, ℕ, zero, suc, ◌+◌, ◌*◌, ◌-◌, ◌<◌, ◌≤◌, length, get_or, ℤ, pos, nat_abs}
use Rattle.integer.specs.declared.Int.{Int}
use Rattle.geometry.specs.declared.Line.{Line}
use Rattle.geometry.specs.declared.Coefficients.{Coefficients}
use Rattle.geometry.specs.declared.Vertex.{Vertex}
use Rattle.geometry.specs.Limit.{coordinate_limit, OnGrid}
use Rattle.geometry.specs.Polygons.{Polygon, VertexOnGrid}
use Rattle.geometry.specs.Trapezoids.{line_at}
use Rattle.fracture.specs.Polygons.{Edge, edges}
use Rattle.geometry_code.specs.Code.{CoefficientsOf}

-- ---- by number
unfoldable pub line_number : List ℤ → ℕ → Line
line_number ls k = line_at ls (4 * k)

abbrev int : ℤ → Int
int z = record { v = z }

unfoldable pub terms_number : List ℤ → ℕ → Coefficients
terms_number ts k = record { dx = int (get_or ts (4 * k) (pos 0)); dy = int (get_or ts (4 * k + 1) (pos 0)); offset = int (get_or ts (4 * k + 2) (pos 0)) }

abbrev pub direction_number : List ℤ → ℕ → ℤ
direction_number ts k = get_or ts (4 * k + 3) (pos 0)

abbrev pub edge_number : List ℤ → List ℤ → ℕ → Edge
edge_number ls ts k = record { line = line_number ls k; direction = direction_number ts k }

-- m of them from number i on
unfoldable pub numbered : (ℕ → Edge) → ℕ → ℕ → List Edge
numbered edge zero i = []
numbered edge (suc m) i = edge i ∷ numbered edge m (i + 1)

-- of n those from number i on
abbrev pub edges_from_number : (ℕ → Edge) → ℕ → ℕ → List Edge
edges_from_number edge n i = numbered edge (n - i) i

abbrev pub stored_edges : ℕ → List ℤ → List ℤ → List Edge
stored_edges n ls ts = edges_from_number (edge_number ls ts) n 0

-- ---- n edges
pub record LinesHeld (n : ℕ) (ls : List ℤ) : Type 0 where
  pub long : length ls ≡ 128
  pub few : n ≤ 32
  pub grid : (k : ℕ) → k < n → OnGrid coordinate_limit (line_number ls k)

pub record EdgesHeld (n : ℕ) (ls ts : List ℤ) : Type 0 where
  pub lines : LinesHeld n ls
  pub long : length ts ≡ 128
  pub terms : (k : ℕ) → k < n → CoefficientsOf (line_number ls k) (terms_number ts k)
  pub light : (k : ℕ) → k < n → nat_abs (direction_number ts k) ≤ 1

-- the slices hold the edges of a polygon
pub record EdgesOf (polygon : Polygon) (n : ℕ) (ls ts : List ℤ) : Type 0 where
  pub held : EdgesHeld n ls ts
  pub is : stored_edges n ls ts ≡ edges polygon

-- ---- one edge more
-- number n has been written, and those before it stay
pub record EdgePut (n : ℕ) (l : Line) (d : ℤ) (ls ts ls' ts' : List ℤ) : Type 0 where
  pub line : line_number ls' n ≡ l
  pub terms : CoefficientsOf l (terms_number ts' n)
  pub direction : direction_number ts' n ≡ d
  pub kept_line : (k : ℕ) → k < n → line_number ls' k ≡ line_number ls k
  pub kept_terms : (k : ℕ) → k < n → terms_number ts' k ≡ terms_number ts k
  pub kept_direction : (k : ℕ) → k < n → direction_number ts' k ≡ direction_number ts k

-- the vertex whose words start at k
abbrev pub vertex_at : List ℤ → ℕ → Vertex
vertex_at ws k = record { x = get_or ws k (pos 0); y = get_or ws (k + 1) (pos 0) }

-- there is room for one edge more, and words hold two vertices on the grid, which start at a and b
pub record TakesEdge (ws : List ℤ) (a b n : ℕ) (ls ts : List ℤ) : Type 0 where
  pub held : EdgesHeld n ls ts
  pub room : n < 32
  pub first : a + 1 < length ws
  pub second : b + 1 < length ws
  pub first_grid : VertexOnGrid coordinate_limit (vertex_at ws a)
  pub second_grid : VertexOnGrid coordinate_limit (vertex_at ws b)

-- the edges es are after the first n, at most one
pub record Lengthened (n : ℕ) (ls ts : List ℤ) (es : List Edge) (r : ℕ) (ls' ts' : List ℤ) : Type 0 where
  pub held : EdgesHeld r ls' ts'
  pub is : stored_edges r ls' ts' ≡ stored_edges n ls ts ++ es
  pub count : r ≤ n + 1
