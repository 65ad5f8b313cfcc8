-- A column filled group by group with the running sum.
use Rattle.std.specs.Prelude.{Option, Some, None}
use mathlib.Core.Path.{◌≡◌, refl, sym, ◌∙◌, ap, subst}
use mathlib.Core.Bool.{Bool, true, false, cond}
use mathlib.Core.List.{List, [], ◌∷◌, ◌++◌, map}
use mathlib.Core.Option.{Option as Maybe, none, some}
use Prim.Native.Nat.{ℕ, zero, suc, ◌+◌, ◌*◌, ◌-◌, ◌<◌, ◌≤◌, zero-le}
use native.Mathlib.Omega.{arith}
use native.Mathlib.Numerals.{add-one}
use lib.ListN.{length, get_or, take, drop}
use lib.Seq.{length-take-le, drop-cons, get_or-take}
use lib.IntN.{ℤ, pos, nat_abs}
use borrow.Rule.Slice.PartMut.{put_mid}
use Rattle.lists.proofs.Lists.{all_at, all_map}
use Rattle.lists.proofs.Kept.{keep_all}
use Rattle.integer.specs.declared.Int.{Int}
use Rattle.integer.specs.Integer.{◌⊕◌}
use Rattle.integer.specs.Fraction.{Fraction}
use Rattle.records.specs.Limits.{memory_width}
use Rattle.geometry.specs.declared.Base.{Base}
use Rattle.geometry.specs.declared.Trapezoid.{Trapezoid}
use Rattle.geometry.specs.Positions.{position}
use Rattle.sweep.specs.Segments.{spans, spanning}
use Rattle.sweep.specs.Columns.{is_zero, lower, up_to, column}
use Rattle.sweep.proofs.Column.{lower_order}
use Rattle.sorting.specs.Weighed.{Weighed, running}
use Rattle.sorting.proofs.Inserting.{drop_past}
use Rattle.sorting.proofs.Weighing.{running_levels}
use Rattle.fracture.specs.Polygons.{Edge, line_of, direction_of, segment}
use Rattle.fracture.specs.Fracture.{trapezoid, trapezoids}
use Rattle.trapezoids_code.specs.Tails.{Borrowed, FilledAs}
use Rattle.trapezoids_code.proofs.Writing.{tail, Writing, write_start, write_stop, write_full, write_upto, write_turn}
use Rattle.polygon_edges_code.specs.Edges.{edge_number, stored_edges, EdgesHeld}
use Rattle.groups_code.specs.Groups.{gathered, groups_from, Gathered}
use Rattle.groups_code.proofs.Adding.{weight_light}
use Rattle.groups_code.proofs.Gathering.{groups_few, gathered_held}
use Rattle.fracture_code.specs.Code.{HasLines, column_of, weighed_numbers, between, slab_between, stack, Summable}

-- ---- a column by the running sum
module _ (ls ts : List ℤ) (p q : Base) where
  abbrev edge_at : Maybe ℕ → Maybe Edge
  edge_at none = none
  edge_at (some k) = some (edge_number ls ts k)

  -- the groups' edges, and their numbers
  running_numbers : (s : ℤ) (b : Maybe ℕ) (ks : List ℕ) (ws : List ℤ) → map (trapezoid p q) (running s (edge_at b) (gathered ls ts ks ws)) ≡ map (slab_between ls p q) (running s b (weighed_numbers ks ws))
  unfolding running
  running_numbers s none [] ws = refl
  running_numbers s (some b) [] ws = refl
  running_numbers s none (k ∷ ks) [] = refl
  running_numbers s (some b) (k ∷ ks) [] = refl
  running_numbers s none (k ∷ ks) (w ∷ ws) = go (is_zero (s ⊕ w)) (running_numbers (s ⊕ w) none ks ws) (running_numbers (s ⊕ w) (some k) ks ws)
    where
      go : (t : Bool) → map (trapezoid p q) (running (s ⊕ w) none (gathered ls ts ks ws)) ≡ map (slab_between ls p q) (running (s ⊕ w) none (weighed_numbers ks ws))
          → map (trapezoid p q) (running (s ⊕ w) (some (edge_number ls ts k)) (gathered ls ts ks ws)) ≡ map (slab_between ls p q) (running (s ⊕ w) (some k) (weighed_numbers ks ws))
          → map (trapezoid p q) (cond t (running (s ⊕ w) none (gathered ls ts ks ws)) (running (s ⊕ w) (some (edge_number ls ts k)) (gathered ls ts ks ws)))
          ≡ map (slab_between ls p q) (cond t (running (s ⊕ w) none (weighed_numbers ks ws)) (running (s ⊕ w) (some k) (weighed_numbers ks ws)))
      go true e f = e
      go false e f = f
  running_numbers s (some b) (k ∷ ks) (w ∷ ws) = go (is_zero (s ⊕ w)) (running_numbers (s ⊕ w) none ks ws) (running_numbers (s ⊕ w) (some b) ks ws)
    where
      go : (t : Bool) → map (trapezoid p q) (running (s ⊕ w) none (gathered ls ts ks ws)) ≡ map (slab_between ls p q) (running (s ⊕ w) none (weighed_numbers ks ws))
          → map (trapezoid p q) (running (s ⊕ w) (some (edge_number ls ts b)) (gathered ls ts ks ws)) ≡ map (slab_between ls p q) (running (s ⊕ w) (some b) (weighed_numbers ks ws))
          → map (trapezoid p q) (cond t (record { bottom = edge_number ls ts b; top = edge_number ls ts k } ∷ running (s ⊕ w) none (gathered ls ts ks ws)) (running (s ⊕ w) (some (edge_number ls ts b)) (gathered ls ts ks ws)))
          ≡ map (slab_between ls p q) (cond t (record { bottom = b; top = k } ∷ running (s ⊕ w) none (weighed_numbers ks ws)) (running (s ⊕ w) (some b) (weighed_numbers ks ws)))
      go true e f = ap (λ (r : List Trapezoid). between ls p q b k ∷ r) e
      go false e f = f

  module _ (n m : ℕ) (ks : List ℕ) (ws : List ℤ) where
    abbrev x : Fraction
    x = position p

    column_running : HasLines n ls ts → column_of n ls ts p q ≡ map (trapezoid p q) (running (pos 0) none (groups_from n ls ts x 0))
    unfolding trapezoids column up_to
    column_running lines = ap (map (trapezoid p q)) (running_levels (lower line_of x) (lower_order line_of x) direction_of (spanning segment x (stored_edges n ls ts)) (keep_all (λ (e : Edge). spans x (segment e)) (λ e h t. h) (stored_edges n ls ts) lines))

    pub column_stack : HasLines n ls ts → Gathered n ls ts x 0 m ks ws → stack ls p q m ks ws ≡ column_of n ls ts p q
    column_stack lines g = sym (column_running lines ∙ ap (λ (gs : List (Weighed Edge)). map (trapezoid p q) (running (pos 0) none gs)) (sym g.is) ∙ running_numbers (pos 0) none (take m ks) (take m ws))

pub gathered-sum : {n : ℕ} {ls ts : List ℤ} {x : Fraction} {m : ℕ} {ks : List ℕ} {ws : List ℤ} → EdgesHeld n ls ts → Gathered n ls ts x 0 m ks ws → Summable ls m ks ws
gathered-sum {n} {ls} {ts} {x} {m} {ks} {ws} h g =
    let k = gathered_held x h g zero-le in
    record {
      lines = k.lines;
      few = omega (arith, groups_few x h g zero-le, h.lines.few);
      keys = k.keys;
      weights = k.weights;
      within = all_map (λ j e. e.within) (take m ks) k.numbered.all;
      light = k.light;
    }

-- ---- group by group
numbers_length : (ks : List ℕ) (ws : List ℤ) → length ks ≡ length ws → length (weighed_numbers ks ws) ≡ length ks
numbers_length [] ws e = refl
numbers_length (k ∷ ks) [] e = absurd (omega arith)
numbers_length (k ∷ ks) (w ∷ ws) e = ap suc (numbers_length ks ws (omega arith))

numbers_at : (ks : List ℕ) (ws : List ℤ) (i : ℕ) (g : Weighed ℕ) → i < length ks → length ks ≡ length ws → get_or (weighed_numbers ks ws) i g ≡ record { item = get_or ks i 0; weight = get_or ws i (pos 0) }
numbers_at [] ws i g l e = absurd (omega arith)
numbers_at (k ∷ ks) [] i g l e = absurd (omega arith)
numbers_at (k ∷ ks) (w ∷ ws) zero g l e = refl
numbers_at (k ∷ ks) (w ∷ ws) (suc i) g l e = numbers_at ks ws i g (omega arith) (omega arith)

module _ (ls : List ℤ) (p q : Base) where
  abbrev begun_at : Option ℕ → Maybe ℕ
  begun_at (Some low) = some low
  begun_at None = none

  -- what is left, where a trapezoid may have begun
  abbrev rest : ℤ → Option ℕ → List (Weighed ℕ) → List Trapezoid
  rest s b gs = map (slab_between ls p q) (running s (begun_at b) gs)

  rest_none : (s : ℤ) (b : Option ℕ) → rest s b [] ≡ []
  unfolding running
  rest_none s (Some low) = refl
  rest_none s None = refl

  -- one group more, at which the sum is zero, or not
  rest_closed : (s w : ℤ) (low h : ℕ) (gs : List (Weighed ℕ)) → is_zero (s ⊕ w) ≡ true → rest s (Some low) (record { item = h; weight = w } ∷ gs) ≡ (between ls p q low h ∷ []) ++ rest (s ⊕ w) None gs
  unfolding running
  rest_closed s w low h gs e = rw e

  rest_kept : (s w : ℤ) (low h : ℕ) (gs : List (Weighed ℕ)) → is_zero (s ⊕ w) ≡ false → rest s (Some low) (record { item = h; weight = w } ∷ gs) ≡ rest (s ⊕ w) (Some low) gs
  unfolding running
  rest_kept s w low h gs e = rw e

  rest_open : (s w : ℤ) (h : ℕ) (gs : List (Weighed ℕ)) → is_zero (s ⊕ w) ≡ false → rest s None (record { item = h; weight = w } ∷ gs) ≡ rest (s ⊕ w) (Some h) gs
  unfolding running
  rest_open s w h gs e = rw e

  rest_idle : (s w : ℤ) (h : ℕ) (gs : List (Weighed ℕ)) → is_zero (s ⊕ w) ≡ true → rest s None (record { item = h; weight = w } ∷ gs) ≡ rest (s ⊕ w) None gs
  unfolding running
  rest_idle s w h gs e = rw e

abbrev Low : Option ℕ → Type 0
Low (Some low) = low < 32
Low None = Unit {0}

-- the first k groups are summed up, and n trapezoids stand
pub record Stacked (ls : List ℤ) (p q : Base) (W room m : ℕ) (ks : List ℕ) (ws out : List ℤ) (sum : Int) (b : Option ℕ) (n k : ℕ) : Type 0 where
  pub writing : Writing W room (stack ls p q m ks ws) (rest ls p q sum.v b (drop k (weighed_numbers (take m ks) (take m ws)))) out n
  pub small : nat_abs sum.v ≤ 64 * k
  pub upto : k ≤ m
  pub low_within : Low b
  pub summable : Summable ls m ks ws

module _ {ls : List ℤ} {p q : Base} {m : ℕ} {ks : List ℕ} {ws : List ℤ} where
  pub stacked_start : Summable ls m ks ws → (d : List ℤ) (room : ℕ) → Borrowed d room → (sum : Int) → sum.v ≡ pos 0 → Stacked ls p q (length d) room m ks ws d sum None 0 0
  stacked_start h d room b sum e =
      record {
        writing = subst (λ (z : ℤ). Writing (length d) room (stack ls p q m ks ws) (rest ls p q z None (weighed_numbers (take m ks) (take m ws))) d 0) (sym e) (write_start (stack ls p q m ks ws) d room b);
        small = rw e zero-le;
        upto = zero-le;
        low_within = tt;
        summable = h;
      }

  module _ {W room : ℕ} {out : List ℤ} {sum : Int} {b : Option ℕ} {n k : ℕ} (s : Stacked ls p q W room m ks ws out sum b n k) where
    abbrev gs : List (Weighed ℕ)
    gs = weighed_numbers (take m ks) (take m ws)

    m_k : length (take m ks) ≡ m
    m_k = let h = s.summable in length-take-le m ks (omega (arith, h.few, h.keys))

    m_w : length (take m ws) ≡ m
    m_w = let h = s.summable in length-take-le m ws (omega (arith, h.few, h.weights))

    m_gs : length gs ≡ m
    m_gs = numbers_length (take m ks) (take m ws) (m_k ∙ sym m_w) ∙ m_k

    pub stacked_stop : m ≤ k → FilledAs W room (stack ls p q m ks ws) (Some n) out
    stacked_stop l = write_stop s.writing (ap (rest ls p q sum.v b) (drop_past gs k (omega (arith, m_gs))) ∙ rest_none ls p q sum.v b)

    pub stacked_low : (low : ℕ) → b ≡ Some low → low < 32
    stacked_low low e = subst Low e s.low_within

    module _ (l : k < m) where
      abbrev h : ℕ
      h = get_or ks k 0

      pub stacked_within : h < 32
      stacked_within = subst (λ (j : ℕ). j < 32) (get_or-take m ks k 0 l) (all_at (λ (j : ℕ). j < 32) (take m ks) k 0 s.summable.within (omega (arith, m_k)))

      first : drop k gs ≡ record { item = h; weight = get_or ws k (pos 0) } ∷ drop (k + 1) gs
      first =
          let d : Weighed ℕ = record { item = 0; weight = pos 0 } in
          rw add-one (drop-cons gs k d (omega (arith, m_gs)) ∙ ap (λ (y : Weighed ℕ). y ∷ drop (suc k) gs) (numbers_at (take m ks) (take m ws) k d (omega (arith, m_k)) (m_k ∙ sym m_w) ∙ rw (get_or-take m ks k 0 l, get_or-take m ws k (pos 0) l)))

      module _ (w : Int) (ew : w.v ≡ get_or ws k (pos 0)) where
        pub stacked_light : nat_abs w.v ≤ 64
        stacked_light = let h = s.summable in rw ew (weight_light m ws h.light (omega (arith, h.few, h.weights)) k l)

        module _ (sum' : Int) (es : sum'.v ≡ sum.v ⊕ w.v) (a : nat_abs sum'.v ≤ nat_abs sum.v + nat_abs w.v) (zero : Bool) (ez : zero ≡ is_zero sum'.v) where
          sum_is : sum'.v ≡ sum.v ⊕ get_or ws k (pos 0)
          sum_is = es ∙ ap (λ (z : ℤ). sum.v ⊕ z) ew

          is : {t : Bool} → zero ≡ t → is_zero (sum.v ⊕ get_or ws k (pos 0)) ≡ t
          is e = ap is_zero (sym sum_is) ∙ sym ez ∙ e

          -- nothing is written
          unwritten : (b' : Option ℕ) → Low b' → rest ls p q sum.v b (record { item = h; weight = get_or ws k (pos 0) } ∷ drop (k + 1) gs) ≡ rest ls p q (sum.v ⊕ get_or ws k (pos 0)) b' (drop (k + 1) gs)
              → Stacked ls p q W room m ks ws out sum' b' n (k + 1)
          unwritten b' low e =
              record {
                writing = subst (λ (r : List Trapezoid). Writing W room (stack ls p q m ks ws) r out n) (ap (rest ls p q sum.v b) first ∙ e ∙ ap (λ (z : ℤ). rest ls p q z b' (drop (k + 1) gs)) (sym sum_is)) s.writing;
                small = omega (arith, a, s.small, stacked_light);
                upto = omega arith;
                low_within = low;
                summable = s.summable;
              }

          pub stacked_open : b ≡ None → zero ≡ false → Stacked ls p q W room m ks ws out sum' (Some h) n (k + 1)
          stacked_open eb e = unwritten (Some h) stacked_within (ap (λ (c : Option ℕ). rest ls p q sum.v c (record { item = h; weight = get_or ws k (pos 0) } ∷ drop (k + 1) gs)) eb ∙ rest_open ls p q sum.v (get_or ws k (pos 0)) h (drop (k + 1) gs) (is e))

          pub stacked_idle : b ≡ None → zero ≡ true → Stacked ls p q W room m ks ws out sum' b n (k + 1)
          stacked_idle eb e =
              unwritten b s.low_within (ap (λ (c : Option ℕ). rest ls p q sum.v c (record { item = h; weight = get_or ws k (pos 0) } ∷ drop (k + 1) gs)) eb ∙ rest_idle ls p q sum.v (get_or ws k (pos 0)) h (drop (k + 1) gs) (is e)
              ∙ ap (λ (c : Option ℕ). rest ls p q (sum.v ⊕ get_or ws k (pos 0)) c (drop (k + 1) gs)) (sym eb))

          module _ (low : ℕ) (eb : b ≡ Some low) where
            at_low : rest ls p q sum.v b (record { item = h; weight = get_or ws k (pos 0) } ∷ drop (k + 1) gs) ≡ rest ls p q sum.v (Some low) (record { item = h; weight = get_or ws k (pos 0) } ∷ drop (k + 1) gs)
            at_low = ap (λ (c : Option ℕ). rest ls p q sum.v c (record { item = h; weight = get_or ws k (pos 0) } ∷ drop (k + 1) gs)) eb

            pub stacked_kept : zero ≡ false → Stacked ls p q W room m ks ws out sum' (Some low) n (k + 1)
            stacked_kept e = unwritten (Some low) (stacked_low low eb) (at_low ∙ rest_kept ls p q sum.v (get_or ws k (pos 0)) low h (drop (k + 1) gs) (is e))

            -- the trapezoid between the two lines is written
            module _ (e : zero ≡ true) (u : Trapezoid) (eu : u ≡ between ls p q low h) (f : Option ℕ) (t : List ℤ) (fill : FilledAs (length (tail out n)) (room - n) (u ∷ []) f t) where
              abbrev adds : List Trapezoid
              adds = between ls p q low h ∷ []

              abbrev later : List Trapezoid
              later = rest ls p q sum'.v None (drop (k + 1) gs)

              turn : rest ls p q sum.v b (drop k gs) ≡ adds ++ later
              turn =
                  ap (rest ls p q sum.v b) first ∙ at_low
                  ∙ rest_closed ls p q sum.v (get_or ws k (pos 0)) low h (drop (k + 1) gs) (is e)
                  ∙ ap (λ (z : ℤ). adds ++ rest ls p q z None (drop (k + 1) gs)) (sym sum_is)

              filled : FilledAs (length (tail out n)) (room - n) adds f t
              filled = subst (λ (y : Trapezoid). FilledAs (length (tail out n)) (room - n) (y ∷ []) f t) eu fill

              pub stacked_full : f ≡ None → room < length (stack ls p q m ks ws)
              stacked_full z = write_full s.writing adds later turn f t filled z

              pub stacked_upto : (c : ℕ) → f ≡ Some c → n + c ≤ room
              stacked_upto c z = write_upto s.writing adds later turn f t filled c z

              pub stacked_closed : (c : ℕ) → f ≡ Some c → Stacked ls p q W room m ks ws (put_mid (memory_width * n) (length out - memory_width * n) out t) sum' None (n + c) (k + 1)
              stacked_closed c z =
                  record {
                    writing = write_turn s.writing adds later turn f t filled c z;
                    small = omega (arith, a, s.small, stacked_light);
                    upto = omega arith;
                    low_within = tt;
                    summable = s.summable;
                  }
