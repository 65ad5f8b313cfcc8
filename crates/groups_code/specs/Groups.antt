-- The groups of a column in arrays, in order: the number of the lowest-numbered edge of each, and the sum of its directions.
use Rattle.std.specs.Prelude.{◌≡◌, cond, List, [], ◌∷◌, map, ℕ, ◌+◌, ◌<◌, ◌≤◌, length, get_or, set, take, ℤ, pos, nat_abs}
use Rattle.lists.specs.Lists.{All}
use Rattle.std.specs.declared.cmp.Ordering.{Ordering}
use Rattle.integer.specs.Integer.{◌⊕◌}
use Rattle.integer.specs.Fraction.{Fraction}
use Rattle.geometry.specs.declared.Line.{Line}
use Rattle.geometry.specs.declared.Coefficients.{Coefficients}
use Rattle.geometry.specs.Limit.{coordinate_limit, OnGrid}
use Rattle.geometry.specs.Positions.{right_of, below}
use Rattle.sweep.specs.Segments.{spans, spanning}
use Rattle.sweep.specs.Columns.{lower}
use Rattle.std.specs.Prelude.{Result, Ok, Err}
use Rattle.sorting.specs.Sorted.{inserted, merged, Lands}
use Rattle.sorting.specs.Weighed.{Weighed, joined, lighter, weighed}
use Rattle.fracture.specs.Polygons.{Edge, line_of, direction_of, segment}
use Rattle.geometry_code.specs.Code.{SmallCoefficients, CoefficientsOf}
use Rattle.polygon_edges_code.specs.Edges.{line_number, terms_number, direction_number, edge_number, edges_from_number}
use Rattle.polygon_events_code.specs.Code.{line_segment}

-- ---- the place of a line
-- the order right of x of whichever lines have these numbers
abbrev pub OrderBy : Coefficients → Coefficients → Fraction → Ordering → Type 0
OrderBy a b x r = (l m : Line) → CoefficientsOf l a → CoefficientsOf m b → r ≡ right_of x l m

-- the first m are numbers of edges whose lines can be compared
pub record Comparables (ts : List ℤ) (m : ℕ) (ks : List ℕ) : Type 0 where
  pub long : length ts ≡ 128
  pub upto : m ≤ length ks
  pub all : All (λ (k : ℕ). (k < 32) × SmallCoefficients (terms_number ts k)) (take m ks)

abbrev pub TermsOf : List ℤ → List ℤ → ℕ → List ℕ → Type 0
TermsOf ls ts m ks = All (λ (k : ℕ). CoefficientsOf (line_number ls k) (terms_number ts k)) (take m ks)

-- where a line with the numbers a belongs among the lines of the first m, right of x
abbrev pub Found : Coefficients → Fraction → List ℤ → ℕ → List ℕ → Result ℕ ℕ → Type 0
Found a x ts m ks r = (l : Line) (ls : List ℤ) → CoefficientsOf l a → TermsOf ls ts m ks → Lands (below x) l (map (line_number ls) (take m ks)) r

-- ---- one more at a place
abbrev pub Fits : Result ℕ ℕ → ℕ → Type 0
Fits (Err i) m = i ≤ m
Fits (Ok i) m = i < m

-- a number with a weight before number i, or in the place of number i with the sum of the weights
abbrev pub AddedAt : Result ℕ ℕ → ℕ → ℤ → ℕ → List ℕ → List ℤ → ℕ → List ℕ → List ℤ → Type 0
AddedAt (Err i) k w m ks ws r ks' ws' = (r ≡ m + 1) × (take (m + 1) ks' ≡ inserted i k (take m ks)) × (take (m + 1) ws' ≡ inserted i w (take m ws))
AddedAt (Ok i) k w m ks ws r ks' ws' = (r ≡ m) × (ks' ≡ set ks i k) × (ws' ≡ set ws i (get_or ws i (pos 0) ⊕ w))

-- ---- groups
abbrev pub gathered : List ℤ → List ℤ → List ℕ → List ℤ → List (Weighed Edge)
gathered ls ts [] ws = []
gathered ls ts (k ∷ ks) [] = []
gathered ls ts (k ∷ ks) (w ∷ ws) = record { item = edge_number ls ts k; weight = w } ∷ gathered ls ts ks ws

-- the first m
abbrev pub groups_in : List ℤ → List ℤ → ℕ → List ℕ → List ℤ → List (Weighed Edge)
groups_in ls ts m ks ws = gathered ls ts (take m ks) (take m ws)

pub record EdgeHeld (ls ts : List ℤ) (k : ℕ) : Type 0 where
  pub within : k < 32
  pub grid : OnGrid coordinate_limit (line_number ls k)
  pub terms : CoefficientsOf (line_number ls k) (terms_number ts k)
  pub light : nat_abs (direction_number ts k) ≤ 1

-- they are numbers of edges
pub record Numbered (ls ts : List ℤ) (m : ℕ) (ks : List ℕ) : Type 0 where
  pub upto : m ≤ length ks
  pub all : All (EdgeHeld ls ts) (take m ks)

pub record Held (ls ts : List ℤ) (m : ℕ) (ks : List ℕ) (ws : List ℤ) : Type 0 where
  pub lines : length ls ≡ 128
  pub terms : length ts ≡ 128
  pub numbered : Numbered ls ts m ks
  pub keys : length ks ≡ 32
  pub weights : length ws ≡ 32
  pub light : All (λ (w : ℤ). nat_abs w ≤ 64) (take m ws)

abbrev pub alone : List ℤ → List ℤ → ℕ → Weighed Edge
alone ls ts k = record { item = edge_number ls ts k; weight = direction_number ts k }

-- edge number k has been put in, if it spans x
pub record Widened (ls ts : List ℤ) (x : Fraction) (k m : ℕ) (ks : List ℕ) (ws : List ℤ) (r : ℕ) (ks' : List ℕ) (ws' : List ℤ) : Type 0 where
  pub is : groups_in ls ts r ks' ws' ≡ cond (spans x (line_segment (line_number ls k))) (merged (lighter (lower line_of x)) joined (alone ls ts k) (groups_in ls ts m ks ws)) (groups_in ls ts m ks ws)
  pub numbered : Numbered ls ts r ks'

-- the groups of the edges from number i on that span x, of n
abbrev pub groups_from : ℕ → List ℤ → List ℤ → Fraction → ℕ → List (Weighed Edge)
groups_from n ls ts x i = weighed (lower line_of x) direction_of (spanning segment x (edges_from_number (edge_number ls ts) n i))

pub record Gathered (n : ℕ) (ls ts : List ℤ) (x : Fraction) (i m : ℕ) (ks : List ℕ) (ws : List ℤ) : Type 0 where
  pub is : groups_in ls ts m ks ws ≡ groups_from n ls ts x i
  pub numbered : Numbered ls ts m ks
  pub keys : length ks ≡ 32
  pub weights : length ws ≡ 32
