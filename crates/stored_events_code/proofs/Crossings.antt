-- The crossings put into the arrays, from the last pair to the first.
use Rattle.std.specs.Prelude.{Option, Some, None}
use mathlib.Core.Path.{◌≡◌, refl, sym, subst}
use mathlib.Core.Bool.{Bool, true, false, cond}
use mathlib.Core.List.{List, [], ◌∷◌, ◌++◌}
use Prim.Native.Nat.{ℕ, zero, suc, ◌+◌, ◌*◌, ◌-◌, ◌<◌, ◌≤◌, zero-le}
use native.Mathlib.Omega.{arith}
use native.Mathlib.Nat.{le_refl}
use lib.ListN.{length, length-append}
use lib.IntN.{ℤ, pos}
use Rattle.levels.specs.Levels.{levels}
use Rattle.geometry.specs.declared.Line.{Line}
use Rattle.geometry.specs.declared.Base.{Base}
use Rattle.geometry.specs.declared.Position.{Position}
use Rattle.fracture.specs.Polygons.{Edge}
use Rattle.fracture.specs.Fracture.{edge_crossing, edges_cross, edge_crossings_with, edge_crossings}
use Rattle.geometry_code.specs.Code.{SmallPosition}
use Rattle.sorting_code.specs.Entries.{entry_of, Stored, Room, Grown}
use Rattle.polygon_edges_code.specs.Edges.{line_number, edge_number, numbered, edges_from_number, LinesHeld}
use Rattle.polygon_edges_code.proofs.Numbers.{from_length, from_next, from_last}
use Rattle.polygon_events_code.specs.Code.{CrossingInside, base_of}
use Rattle.stored_events_code.specs.Events.{Wide, Events, Crossed, plain_edge, crossings_from, PairAdded, apart, cross}
use Rattle.stored_events_code.proofs.Entering.{listed_stored, events_room, events_grow, name_cross, valid_cross}

-- ---- how many
tri : ℕ → ℕ
tri zero = 0
tri (suc k) = k + tri k

tri_small : (m k : ℕ) → m ≤ k → tri m ≤ tri k
unfolding tri
tri_small zero k h = zero-le
tri_small (suc m) zero h = absurd (omega arith)
tri_small (suc m) (suc k) h = let e = tri_small m k (omega arith) in omega arith

with_few : (d : Edge) (es : List Edge) → length (edge_crossings_with d es) ≤ length es
unfolding edge_crossings_with
with_few d [] = zero-le
with_few d (e ∷ es) = go (edges_cross d e) (with_few d es)
  where
    go : (t : Bool) → length (edge_crossings_with d es) ≤ length es → length (cond t (edge_crossing d e ∷ edge_crossings_with d es) (edge_crossings_with d es)) ≤ suc (length es)
    go true h = omega arith
    go false h = omega arith

crossings_few : (es : List Edge) → length (edge_crossings es) ≤ tri (length es)
unfolding edge_crossings tri
crossings_few [] = zero-le
crossings_few (e ∷ es) = let h = crossings_few es in let k = with_few e es in omega (arith, length-append (edge_crossings_with e es) (edge_crossings es))

pub crossings_most : (count : ℕ) (ls : List ℤ) → count ≤ 32 → length (crossings_from count ls 0) ≤ 496
unfolding tri
crossings_most count ls l =
    let es = edges_from_number (plain_edge ls) count 0 in
    let g = crossings_few es in
    let e = from_length (plain_edge ls) count 0 in
    let t : tri (length es) ≤ 496 = tri_small (length es) 32 (omega (arith, e, l)) in
    omega (arith, g, t)

-- ---- directions do not matter
module _ (ls ts : List ℤ) where
  with_lines : (l : Line) (a b : ℤ) (m i : ℕ) → edge_crossings_with (record { line = l; direction = a }) (numbered (plain_edge ls) m i) ≡ edge_crossings_with (record { line = l; direction = b }) (numbered (edge_number ls ts) m i)
  unfolding edge_crossings_with numbered
  with_lines l a b zero i = refl
  with_lines l a b (suc m) i = rw (with_lines l a b m (i + 1))

  pub crossings_lines : (m i : ℕ) → edge_crossings (numbered (plain_edge ls) m i) ≡ edge_crossings (numbered (edge_number ls ts) m i)
  unfolding edge_crossings numbered
  crossings_lines zero i = refl
  crossings_lines (suc m) i = rw (with_lines (line_number ls i) (pos 0) (edge_number ls ts i).direction m (i + 1), crossings_lines m (i + 1))

-- ---- one pair
pub pair_small : (l m : Line) (r : Option Position) → CrossingInside l m r → (p : Position) → r ≡ Some p → SmallPosition p
pair_small l m r h p e = (subst (CrossingInside l m) e h).1.small

module _ {l m : Line} {id n : ℕ} {a b : List ℤ} {c : List ℕ} (r : Option Position) (h : CrossingInside l m r) where
  pub pair_none : r ≡ None → PairAdded l m id n a b c n a b c
  pair_none e = apart (subst (CrossingInside l m) e h) refl refl refl refl

  pub pair_cross : (p : Position) → r ≡ Some p → (k : ℕ) (a' b' : List ℤ) (c' : List ℕ) → Grown n a b c (entry_of p id) k a' b' c' → PairAdded l m id n a b c k a' b' c'
  pair_cross p e k a' b' c' g = let j = subst (CrossingInside l m) e h in cross p j.0 j.1 g

-- ---- a row
-- those of edge number i with the edges from number j on, and all of the edges after it
abbrev row_from : ℕ → List ℤ → ℕ → ℕ → List Base
row_from count ls i j = edge_crossings_with (plain_edge ls i) (edges_from_number (plain_edge ls) count j) ++ crossings_from count ls (i + 1)

pub record Row (count : ℕ) (ls : List ℤ) (i k : ℕ) (a b : List ℤ) (c : List ℕ) (j : ℕ) : Type 0 where
  pub crossed : Crossed ls (row_from count ls i j) k a b c
  pub low : i + 1 ≤ j
  pub high : j ≤ count
  pub held : LinesHeld count ls

module _ {count : ℕ} {ls : List ℤ} (w : LinesHeld count ls) where
  abbrev line : ℕ → Line
  line = line_number ls

  pub row_start : (i n : ℕ) (a b : List ℤ) (c : List ℕ) → i < count → Crossed ls (crossings_from count ls (i + 1)) n a b c → Row count ls i n a b c count
  unfolding edge_crossings_with
  row_start i n a b c l h = record { crossed = λ L. rw (from_last (plain_edge ls) count count (le_refl count)) (h L); low = omega arith; high = le_refl count; held = w }

  row_few : (i j : ℕ) → i + 1 < j → j ≤ count → length (row_from count ls i j) < 528
  unfolding tri
  row_few i j l h =
      let k = count - (i + 1) in
      let f = with_few (plain_edge ls i) (edges_from_number (plain_edge ls) count j) in
      let g = crossings_few (edges_from_number (plain_edge ls) count (i + 1)) in
      let e : length (edges_from_number (plain_edge ls) count (i + 1)) ≡ k = from_length (plain_edge ls) count (i + 1) in
      let t : k + tri k ≤ 496 = tri_small (suc k) 32 (omega (arith, w.few)) in
      let g' : length (crossings_from count ls (i + 1)) ≤ tri k = subst (λ (m : ℕ). length (crossings_from count ls (i + 1)) ≤ tri m) e g in
      omega (arith, f, g', t, from_length (plain_edge ls) count j, length-append (edge_crossings_with (plain_edge ls i) (edges_from_number (plain_edge ls) count j)) (crossings_from count ls (i + 1)))

  module _ (i k : ℕ) (a b : List ℤ) (c : List ℕ) (j : ℕ) (h : Row count ls i k a b c j) (l : i + 1 < j) where
    pub row_stored : Stored k a b
    row_stored = listed_stored (h.crossed 0).listed

    pub row_room : Room k a b c
    row_room = events_room (h.crossed 0) (row_few i j l h.high)

    back : j - 1 + 1 ≡ j
    back = omega arith

    -- what edge number j − 1 adds
    turn : row_from count ls i (j - 1) ≡ cond (edges_cross (plain_edge ls i) (plain_edge ls (j - 1))) (edge_crossing (plain_edge ls i) (plain_edge ls (j - 1)) ∷ row_from count ls i j) (row_from count ls i j)
    unfolding edge_crossings_with
    turn = rw (from_next (plain_edge ls) count (j - 1) (omega (arith, h.high)), back) (go (edges_cross (plain_edge ls i) (plain_edge ls (j - 1))))
      where
        go : (t : Bool) → cond t (edge_crossing (plain_edge ls i) (plain_edge ls (j - 1)) ∷ edge_crossings_with (plain_edge ls i) (edges_from_number (plain_edge ls) count j)) (edge_crossings_with (plain_edge ls i) (edges_from_number (plain_edge ls) count j)) ++ crossings_from count ls (i + 1)
            ≡ cond t (edge_crossing (plain_edge ls i) (plain_edge ls (j - 1)) ∷ row_from count ls i j) (row_from count ls i j)
        go true = refl
        go false = refl

    module _ (r : ℕ) (a' b' : List ℤ) (c' : List ℕ) (wide : Wide a' b' c') (id : ℕ) (e : id ≡ 32 * i + (j - 1)) where
      row_more : PairAdded (line i) (line (j - 1)) id k a b c r a' b' c' → Crossed ls (row_from count ls i (j - 1)) r a' b' c'
      row_more (apart t er ea eb ec) L = rw (turn, t, er, ea, eb, ec) (h.crossed L)
      row_more (cross p t q g) L =
          let li : i < 32 = omega (arith, h.high, w.few) in
          let lj : j - 1 < 32 = omega (arith, h.high, w.few) in
          rw (turn, t)
          (events_grow (h.crossed L) (base_of (line i) (line (j - 1))) (entry_of p id) r a' b' c' (row_few i j l h.high) g wide
          (valid_cross L ls i (j - 1) p id li lj e q)
          (name_cross L ls i (j - 1) (entry_of p id) li lj e))

      pub row_turn : (d f : Line) → d ≡ line i → f ≡ line (j - 1) → PairAdded d f id k a b c r a' b' c' → Row count ls i r a' b' c' (j - 1)
      row_turn d f ed ef g =
          let s : PairAdded (line i) (line (j - 1)) id k a b c r a' b' c' = rw (sym ed, sym ef) g in
          record { crossed = row_more s; low = omega arith; high = omega (arith, h.high); held = w }

  pub row_end : (i k : ℕ) (a b : List ℤ) (c : List ℕ) (j : ℕ) → Row count ls i k a b c j → j ≤ i + 1 → Crossed ls (crossings_from count ls i) k a b c
  unfolding edge_crossings
  row_end i k a b c j h l L =
      let e : j ≡ i + 1 = omega (arith, h.low) in
      rw (from_next (plain_edge ls) count i (omega (arith, h.high, e))) (subst (λ (m : ℕ). Events L ls (row_from count ls i m) k a b c) e (h.crossed L))

-- ---- all rows
pub record Rows (count : ℕ) (ls : List ℤ) (n : ℕ) (a b : List ℤ) (c : List ℕ) (i : ℕ) : Type 0 where
  pub crossed : Crossed ls (crossings_from count ls i) n a b c
  pub high : i ≤ count
  pub held : LinesHeld count ls

module _ {count : ℕ} {ls : List ℤ} where
  pub rows_start : (a b : List ℤ) (c : List ℕ) → LinesHeld count ls → Wide a b c → Rows count ls 0 a b c count
  unfolding edge_crossings levels
  rows_start a b c w h =
      record {
        crossed = λ L. rw (from_last (plain_edge ls) count count (le_refl count)) (record { is = refl; listed = record { valid = tt; wide = h; few = zero-le } });
        high = le_refl count;
        held = w;
      }

  module _ {n : ℕ} {a b : List ℤ} {c : List ℕ} {i : ℕ} (h : Rows count ls n a b c i) where
    module _ (l : 0 < i) where
      pub rows_asks : LinesHeld count ls × (i - 1 < count) × Crossed ls (crossings_from count ls (i - 1 + 1)) n a b c
      rows_asks = let e : i ≡ i - 1 + 1 = omega arith in (h.held, omega (arith, h.high), subst (λ (m : ℕ). Crossed ls (crossings_from count ls m) n a b c) e h.crossed)

      pub rows_next : (r : ℕ) (a' b' : List ℤ) (c' : List ℕ) → Crossed ls (crossings_from count ls (i - 1)) r a' b' c' → Rows count ls r a' b' c' (i - 1)
      rows_next r a' b' c' k = record { crossed = k; high = omega (arith, h.high); held = h.held }

    pub rows_end : i ≤ 0 → Crossed ls (crossings_from count ls 0) n a b c
    rows_end l = let e : i ≡ 0 = omega arith in subst (λ (m : ℕ). Crossed ls (crossings_from count ls m) n a b c) e h.crossed
