-- The events of a polygon in arrays, in order, each with a name.
use Rattle.std.specs.Prelude.{◌≡◌, true, false, cond, List, ◌++◌, map, ℕ, ◌/◌, ◌%◌, ◌≤◌, ltb, length, ℤ, pos, nat_abs}
use Rattle.lists.specs.Lists.{All}
use Rattle.levels.specs.Levels.{levels}
use Rattle.geometry.specs.declared.Line.{Line}
use Rattle.geometry.specs.declared.Base.{Base}
use Rattle.geometry.specs.declared.Position.{Position}
use Rattle.geometry.specs.Polygons.{Polygon, PolygonOnGrid}
use Rattle.geometry.specs.Positions.{position}
use Rattle.sweep.specs.Segments.{cross_inside}
use Rattle.sweep.specs.Sweep.{earlier}
use Rattle.fracture.specs.Polygons.{Edge}
use Rattle.fracture.specs.Fracture.{mark, marks, edge_crossings}
use Rattle.geometry_code.specs.Code.{PositionOf}
use Rattle.sorting_code.specs.Entries.{Entry, key_of, entry_of, stored, SmallKey, Grown}
use Rattle.polygon_edges_code.specs.Edges.{line_number, edges_from_number}
use Rattle.polygon_events_code.specs.Code.{base_of, line_segment}

-- ---- names
-- a crossing's name is 32 times the lower number and the higher; any other is a mark's
unfoldable pub named : ℕ → List ℤ → Entry → Base
named L ls e = cond (ltb e.name 1024) (base_of (line_number ls (e.name / 32)) (line_number ls (e.name % 32))) (mark L e.num)

-- e stands at the event that it names
pub record Valid (L : ℕ) (ls : List ℤ) (e : Entry) : Type 0 where
  pub is : key_of e ≡ position (named L ls e)
  pub small : SmallKey (key_of e)
  pub within : 1024 ≤ e.name → nat_abs e.num ≤ L

-- ---- arrays
-- room for the crossings of 32 edges and 32 marks
pub record Wide (a b : List ℤ) (c : List ℕ) : Type 0 where
  pub nums : length a ≡ 528
  pub dens : length b ≡ 528
  pub names : length c ≡ 528

-- the first n are events
pub record Listed (L : ℕ) (ls : List ℤ) (n : ℕ) (a b : List ℤ) (c : List ℕ) : Type 0 where
  pub valid : All (Valid L ls) (stored n a b c)
  pub wide : Wide a b c
  pub few : n ≤ 528

-- they are the levels of ks
pub record Events (L : ℕ) (ls : List ℤ) (ks : List Base) (n : ℕ) (a b : List ℤ) (c : List ℕ) : Type 0 where
  pub is : map (named L ls) (stored n a b c) ≡ levels (earlier position) ks
  pub listed : Listed L ls n a b c

-- the same of crossings: the limit does not matter
abbrev pub Crossed : List ℤ → List Base → ℕ → List ℤ → List ℤ → List ℕ → Type 0
Crossed ls ks n a b c = (L : ℕ) → Events L ls ks n a b c

-- ---- crossings
-- a crossing does not depend on directions
abbrev pub plain_edge : List ℤ → ℕ → Edge
plain_edge ls k = record { line = line_number ls k; direction = pos 0 }

-- those of the edges from number i on, of `count`
abbrev pub crossings_from : ℕ → List ℤ → ℕ → List Base
crossings_from count ls i = edge_crossings (edges_from_number (plain_edge ls) count i)

-- the crossing of two lines, if they cross strictly inside both spans, has been put in
pub data PairAdded (l m : Line) (id n : ℕ) (a b : List ℤ) (c : List ℕ) (r : ℕ) (a' b' : List ℤ) (c' : List ℕ) : Type 0 where
  apart : cross_inside (line_segment l) (line_segment m) ≡ false → r ≡ n → a' ≡ a → b' ≡ b → c' ≡ c → PairAdded l m id n a b c r a' b' c'
  cross : (p : Position) → cross_inside (line_segment l) (line_segment m) ≡ true → PositionOf (base_of l m) p → Grown n a b c (entry_of p id) r a' b' c' → PairAdded l m id n a b c r a' b' c'

-- ---- all
-- the events of a polygon whose edges have these lines, whichever limit it keeps within
abbrev pub Entered : Polygon → ℕ → List ℤ → ℕ → List ℤ → List ℤ → List ℕ → Type 0
Entered polygon count ls n a b c = (L : ℕ) → PolygonOnGrid L polygon → Events L ls (marks L polygon ++ crossings_from count ls 0) n a b c
