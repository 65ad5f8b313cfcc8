-- The columns filled from left to right, along the stored events.
use Rattle.std.specs.Prelude.{Option, Some, None}
use mathlib.Core.Path.{◌≡◌, sym, ◌∙◌, ap, subst}
use mathlib.Core.List.{List, [], ◌∷◌, ◌++◌, map}
use Prim.Native.Nat.{ℕ, ◌+◌, ◌*◌, ◌-◌, ◌<◌, ◌≤◌}
use native.Mathlib.Omega.{arith}
use native.Mathlib.Numerals.{add-one}
use lib.ListN.{length, drop, length-map}
use lib.IntN.{ℤ}
use borrow.Rule.Slice.PartMut.{put_mid}
use Rattle.lists.specs.Lists.{All}
use Rattle.integer.specs.Fraction.{Fraction}
use Rattle.records.specs.Limits.{memory_width}
use Rattle.geometry.specs.declared.Base.{Base}
use Rattle.geometry.specs.declared.Trapezoid.{Trapezoid}
use Rattle.geometry.specs.Lines.{IsLine}
use Rattle.geometry.specs.Positions.{position}
use Rattle.geometry.specs.Polygons.{Polygon}
use Rattle.sweep.specs.Sweep.{columns, sweep}
use Rattle.sweep.specs.declared.Event.{Event}
use Rattle.sorting.proofs.Inserting.{drop_past}
use Rattle.fracture.specs.Polygons.{Edge, segment}
use Rattle.fracture.specs.Fracture.{marks, polygon_events, trapezoids, fracture}
use Rattle.fracture.proofs.Events.{complete}
use Rattle.trapezoids_code.specs.Tails.{Borrowed, FilledAs}
use Rattle.trapezoids_code.proofs.Writing.{tail, Writing, write_start, write_stop, write_full, write_upto, write_turn, fill_nothing}
use Rattle.sorting_code.specs.Entries.{stored, entry_at}
use Rattle.polygon_events_code.specs.Code.{EventOf}
use Rattle.polygon_edges_code.specs.Edges.{stored_edges, EdgesOf}
use Rattle.stored_events_code.specs.Events.{named, Events, Listed, crossings_from}
use Rattle.stored_events_code.proofs.Entering.{listed_count, listed_next}
use Rattle.stored_events_code.proofs.Crossings.{crossings_lines}
use Rattle.groups_code.specs.Groups.{Gathered}
use Rattle.fracture_code.specs.Code.{HasLines, column_of, stack}
use Rattle.fracture_code.proofs.Slabs.{column_stack}

pub gathered_move : {n : ℕ} {ls ts : List ℤ} {x y : Fraction} {m : ℕ} {ks : List ℕ} {ws : List ℤ} → x ≡ y → Gathered n ls ts x 0 m ks ws → Gathered n ls ts y 0 m ks ws
gathered_move {n} {ls} {ts} {x} {y} {m} {ks} {ws} e h = subst (λ (z : Fraction). Gathered n ls ts z 0 m ks ws) e h

-- ---- along the events
module _ (L : ℕ) (ls : List ℤ) (n : ℕ) (a b : List ℤ) (c : List ℕ) (h : Listed L ls n a b c) where
  abbrev bases : List Base
  bases = map (named L ls) (stored n a b c)

  n_bases : length bases ≡ n
  n_bases = length-map (stored n a b c) (named L ls) ∙ listed_count h

  next_base : (i : ℕ) → i < n → drop i bases ≡ named L ls (entry_at a b c i) ∷ drop (i + 1) bases
  next_base i l = rw add-one (listed_next h i l)

abbrev swept : ℕ → List ℤ → List ℤ → List Base → List Trapezoid
swept count ls ts ks = columns segment position trapezoids (stored_edges count ls ts) ks

abbrev goal : ℕ → ℕ → List ℤ → List ℤ → ℕ → List ℤ → List ℤ → List ℕ → List Trapezoid
goal L count ls ts n a b c = swept count ls ts (map (named L ls) (stored n a b c))

-- the columns up to the event p are filled, which is number i − 1
pub record Sweeping (L count : ℕ) (ls ts : List ℤ) (n : ℕ) (a b : List ℤ) (c : List ℕ) (W room : ℕ) (ks : List ℕ) (ws out : List ℤ) (p : Event) (done i : ℕ) : Type 0 where
  pub writing : Writing W room (goal L count ls ts n a b c) (swept count ls ts (p.base ∷ drop i (map (named L ls) (stored n a b c)))) out done
  pub event : EventOf p
  pub keys : length ks ≡ 32
  pub weights : length ws ≡ 32

module _ {L : ℕ} (count : ℕ) {ls : List ℤ} (ts : List ℤ) {n : ℕ} {a b : List ℤ} {c : List ℕ} (h : Listed L ls n a b c) where
  pub sweeping_none : (d : List ℤ) (room : ℕ) → Borrowed d room → n < 1 → FilledAs (length d) room (goal L count ls ts n a b c) (Some 0) d
  unfolding columns
  sweeping_none d room k l = let e : bases L ls n a b c h ≡ [] = drop_past (bases L ls n a b c h) 0 (omega (arith, n_bases L ls n a b c h)) in rw e (fill_nothing d room k)

  pub sweeping_start : (d : List ℤ) (room : ℕ) (ks : List ℕ) (ws : List ℤ) → Borrowed d room → length ks ≡ 32 → length ws ≡ 32 → 1 ≤ n → (p : Event) → (p.base ≡ named L ls (entry_at a b c 0)) × EventOf p
      → Sweeping L count ls ts n a b c (length d) room ks ws d p 0 1
  sweeping_start d room ks ws k lk lw l p e =
      record {
        writing = subst (λ (bs : List Base). Writing (length d) room (goal L count ls ts n a b c) (swept count ls ts bs) d 0) (next_base L ls n a b c h 0 (omega arith) ∙ ap (λ (x : Base). x ∷ drop 1 (bases L ls n a b c h)) (sym e.0)) (write_start (goal L count ls ts n a b c) d room k);
        event = e.1;
        keys = lk;
        weights = lw;
      }

  module _ {W room : ℕ} {ks : List ℕ} {ws out : List ℤ} {p : Event} {done i : ℕ} (s : Sweeping L count ls ts n a b c W room ks ws out p done i) where
    pub sweeping_stop : n ≤ i → FilledAs W room (goal L count ls ts n a b c) (Some done) out
    unfolding columns
    sweeping_stop l = write_stop s.writing (ap (λ (bs : List Base). swept count ls ts (p.base ∷ bs)) (drop_past (bases L ls n a b c h) i (omega (arith, n_bases L ls n a b c h))))

    module _ (lines : HasLines count ls ts) (l : i < n) (q : Event) (eq : (q.base ≡ named L ls (entry_at a b c i)) × EventOf q) (m : ℕ) (ks' : List ℕ) (ws' : List ℤ) (g : Gathered count ls ts (position p.base) 0 m ks' ws')
        (f : Option ℕ) (t : List ℤ) (fill : FilledAs (length (tail out done)) (room - done) (stack ls p.base q.base m ks' ws') f t) where
      abbrev filled_column : List Trapezoid
      filled_column = column_of count ls ts p.base q.base

      abbrev later : List Trapezoid
      later = swept count ls ts (q.base ∷ drop (i + 1) (bases L ls n a b c h))

      turn : swept count ls ts (p.base ∷ drop i (bases L ls n a b c h)) ≡ filled_column ++ later
      unfolding columns
      turn = ap (λ (bs : List Base). swept count ls ts (p.base ∷ bs)) (next_base L ls n a b c h i l ∙ ap (λ (x : Base). x ∷ drop (i + 1) (bases L ls n a b c h)) (sym eq.0))

      filled : FilledAs (length (tail out done)) (room - done) filled_column f t
      filled = subst (λ (r : List Trapezoid). FilledAs (length (tail out done)) (room - done) r f t) (column_stack ls ts p.base q.base count m ks' ws' lines g) fill

      pub sweeping_full : f ≡ None → room < length (goal L count ls ts n a b c)
      sweeping_full z = write_full s.writing filled_column later turn f t filled z

      pub sweeping_upto : (k : ℕ) → f ≡ Some k → done + k ≤ room
      sweeping_upto k z = write_upto s.writing filled_column later turn f t filled k z

      pub sweeping_next : (k : ℕ) → f ≡ Some k → Sweeping L count ls ts n a b c W room ks' ws' (put_mid (memory_width * done) (length out - memory_width * done) out t) q (done + k) (i + 1)
      sweeping_next k z = record { writing = write_turn s.writing filled_column later turn f t filled k z; event = eq.1; keys = g.keys; weights = g.weights }

-- ---- the whole
module _ (L : ℕ) (polygon : Polygon) {count : ℕ} {ls ts : List ℤ} (h : EdgesOf polygon count ls ts) where
  pub edges_lines : HasLines count ls ts
  edges_lines = subst (All (λ (e : Edge). IsLine e.line)) (sym h.is) (complete L polygon).lines

  module _ (n : ℕ) (a b : List ℤ) (c : List ℕ) (e : Events L ls (marks L polygon ++ crossings_from count ls 0) n a b c) where
    whole_is : goal L count ls ts n a b c ≡ fracture L polygon
    unfolding fracture sweep polygon_events
    whole_is = ap (swept count ls ts) e.is ∙ rw (crossings_lines ls ts (count - 0) 0, h.is)

    pub whole_filled : (W room : ℕ) (r : Option ℕ) (d : List ℤ) → FilledAs W room (goal L count ls ts n a b c) r d → FilledAs W room (fracture L polygon) r d
    whole_filled W room r d f = subst (λ (ts : List Trapezoid). FilledAs W room ts r d) whole_is f
