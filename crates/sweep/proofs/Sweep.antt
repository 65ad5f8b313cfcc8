-- The sweep theorem: a position lies in one column, or no segment spans it.
use mathlib.Core.Path.{◌≡◌, refl, sym, ◌∙◌, ap₂, subst}
use mathlib.Core.Bool.{Bool, not}
use mathlib.Core.List.{List, [], ◌∷◌}
use mathlib.Core.Logic.{◌⊎◌, inl, inr}
use Prim.Native.Nat.{ℕ, ◌+◌}
use native.Mathlib.Nat.{zero-add, add-zero}
use lib.Dec.{T, T_not, not_T}
use mir.Facts.{and_yes}
use Rattle.lists.specs.Lists.{All, Neighbours, Member}
use Rattle.lists.specs.Tests.{count_if}
use Rattle.lists.proofs.Tests.{yes_or_no}
use Rattle.lists.proofs.Lists.{all_append, all_map, all_with, any_elim, all_both}
use Rattle.lists.proofs.Neighbours.{neighbours_all, neighbours_map, neighbours_of, neighbours_both, pairs_neighbours}
use Rattle.lists.proofs.Counts.{count_append}
use Rattle.integer.specs.Fraction.{Fraction, Proper, before}
use Rattle.integer.proofs.Fraction.{before→at_most, at_most_trans, before_at_most_trans}
use Rattle.levels.specs.Levels.{Level, StrictWeakOrder, levels, Rising}
use Rattle.levels.proofs.Laws.{levels_all, levels_members, levels_rising, levels_cover, none_between}
use Rattle.sweep.specs.Segments.{Segment, spans, spanning}
use Rattle.sweep.specs.Sweep.{earlier, columns, sweep, IsEvent, Complete, Column, SweepAll, SweepCount}
use Rattle.sweep.proofs.Between.{Outside, clear_column, same_spanning}

-- events by their positions
module _ {K : Type 0} (position : K → Fraction) where
  abbrev pub Placed : K → Type 0
  Placed k = Proper (position k)

  pub placed_order : StrictWeakOrder (earlier position) Placed
  placed_order = record { asymmetric = λ s t. before→at_most (position s) (position t); transitive = λ s t u hs ht hu. at_most_trans (position s) (position t) (position u) hs ht hu }

module _ {A K : Type 0} (segment : A → Segment) (position : K → Fraction) (es : List A) (ks : List K) (c : Complete segment position es ks) where
  abbrev less : K → K → Bool
  less = earlier position

  o : StrictWeakOrder less (Placed position)
  o = placed_order position

  abbrev ss : List K
  ss = levels less ks

  placed : All (Placed position) ss
  placed = levels_all less (Placed position) ks c.proper

  rising : Rising less ss
  rising = levels_rising less o ks c.proper

  -- ---- each two neighbouring events make a column
  -- no event lies strictly between them
  abbrev Empty : K → K → Type 0
  Empty p q = All (λ (k : K). Outside (position p) (position q) (position k)) ks

  empty : Neighbours Empty ss
  empty = neighbours_all (λ (k p q : K). Outside (position p) (position q) (position k)) ks ss (none_between less (Placed position) o ks c.proper)

  abbrev Here : K → Type 0
  Here k = Placed position k × Member k ks

  here : All Here ss
  here = all_both (Placed position) (λ (k : K). Member k ks) ss placed (levels_members less ks)

  make : (p q : K) → (Here p × Here q) × (T (less p q) × Empty p q) → Column segment position es ks p q
  make p q h =
      record {
        first = h.0.0.1;
        last = h.0.1.1;
        wide = h.1.0;
        clear = clear_column (position p) (position q) h.0.0.0 h.0.1.0 segment position es ks c h.1.1;
        same = same_spanning (position p) (position q) h.0.0.0 h.0.1.0 segment position es ks c h.1.1;
      }

  pub all_columns : Neighbours (Column segment position es ks) ss
  all_columns =
      neighbours_map make ss
      (neighbours_both (λ (p q : K). Here p × Here q) (λ (p q : K). T (less p q) × Empty p q) ss (neighbours_of Here ss here)
      (neighbours_both (λ (p q : K). T (less p q)) Empty ss (pairs_neighbours (λ (p q : K). T (less p q)) ss rising) empty))

-- ---- what the columns yield
module _ {A K X : Type 0} (segment : A → Segment) (position : K → Fraction) (es : List A) (yields : K → K → List A → List X) where
  -- what the column from p to q yields, and what those between neighbours of a list do
  abbrev yielded : K → K → List X
  yielded p q = yields p q (spanning segment (position p) es)

  abbrev swept : List K → List X
  swept ss = columns segment position yields es ss

  columns_all : (R : X → Type 0) (ss : List K) → Neighbours (λ (p q : K). All R (yielded p q)) ss → All R (swept ss)
  unfolding columns
  columns_all R [] n = tt
  columns_all R (p ∷ []) n = tt
  columns_all R (p ∷ q ∷ qs) n = all_append R (yielded p q) (swept (q ∷ qs)) n.0 (columns_all R (q ∷ qs) n.1)

  -- ---- how many pass a test, where only the column that x is in yields any that do
  module _ (x : Fraction) (hx : Proper x) (f : X → Bool) (n : ℕ)
      (elsewhere : (p q : K) (ds : List A) → T (before x (position p)) ⊎ T (not (before x (position q))) → count_if f (yields p q ds) ≡ 0) where
    abbrev Before : K → Type 0
    Before k = T (before x (position k))

    abbrev NotBefore : K → Type 0
    NotBefore k = T (not (before x (position k)))

    -- the columns right of x
    count_after : (ss : List K) → All Before ss → count_if f (swept ss) ≡ 0
    unfolding columns count_if
    count_after [] a = refl
    count_after (p ∷ []) a = refl
    count_after (p ∷ q ∷ qs) a = count_append f (yielded p q) (swept (q ∷ qs)) ∙ ap₂ ◌+◌ (elsewhere p q (spanning segment (position p) es) (inl a.0)) (count_after (q ∷ qs) a.1)

    all_after : (s : K) (ts : List K) → Placed position s → All (Placed position) ts → All (λ (t : K). T (earlier position s t)) ts → Before s → All Before (s ∷ ts)
    all_after s ts hs g r b = (b, all_with (λ t ht l. before_at_most_trans x (position s) (position t) hx hs ht b (before→at_most (position s) (position t) l)) ts g r)

    -- the column that x is in has n
    abbrev Counts : K → K → Type 0
    Counts p q = NotBefore p → Before q → count_if f (yielded p q) ≡ n

    -- from an event at or left of x on
    count_from : (s : K) (ts : List K) → NotBefore s → All (Placed position) ts → Rising (earlier position) ts → Neighbours Counts (s ∷ ts) → (All NotBefore ts → n ≡ 0) → count_if f (swept (s ∷ ts)) ≡ n
    unfolding columns count_if
    count_from s [] l g r m z = sym (z tt)
    count_from s (t ∷ ts) l g r m z =
        let k : NotBefore t → count_if f (swept (t ∷ ts)) ≡ n = λ b. count_from t ts b g.1 r.1 m.1 (λ a. z (b, a)) in
        count_append f (yielded s t) (swept (t ∷ ts))
        ∙ elim (yes_or_no (before x (position t))) [
          | inl b ↦ ap₂ ◌+◌ (m.0 l b) (count_after (t ∷ ts) (all_after t ts g.0 g.1 r.0 b)) ∙ add-zero n
          | inr b ↦ ap₂ ◌+◌ (elsewhere s t (spanning segment (position s) es) (inr b)) (k b) ∙ zero-add n
        ]

    count_columns : (ss : List K) → All (Placed position) ss → Rising (earlier position) ss → Neighbours Counts ss → (All Before ss → n ≡ 0) → (All NotBefore ss → n ≡ 0) → count_if f (swept ss) ≡ n
    unfolding columns count_if
    count_columns [] g r m y z = sym (z tt)
    count_columns (s ∷ ss) g r m y z =
        elim (yes_or_no (before x (position s))) [
          | inl b ↦ (let a = all_after s ss g.0 g.1 r.0 b in count_after (s ∷ ss) a ∙ sym (y a))
          | inr b ↦ count_from s ss b g.1 r.1 m (λ a. z (b, a))
        ]

-- ---- if x is left of all events, or not left of any, no segment spans it
module _ {A K : Type 0} (segment : A → Segment) (position : K → Fraction) (es : List A) (ks : List K) (c : Complete segment position es ks) (x : Fraction) (hx : Proper x) where
  -- what holds of each level, and with one position of each level with it, holds of each event
  each_event : (R : Fraction → Type 0) → ((k s : K) → Placed position k → Placed position s → Level (earlier position) k s → R (position s) → R (position k))
      → All (λ (s : K). R (position s)) (levels (earlier position) ks) → (y : Fraction) → IsEvent segment position es ks y → R y
  each_event R g a y i = any_elim (λ k r e. subst R (sym e) r) ks events i
    where
      events : All (λ (k : K). R (position k)) ks
      events =
          let ss = levels (earlier position) ks in
          let levelled = all_both (Placed position) (λ (s : K). R (position s)) ss (levels_all (earlier position) (Placed position) ks c.proper) a in
          all_with (λ k hk l. any_elim (λ s h j. g k s hk h.0 j h.1) ss levelled l) ks c.proper (levels_cover (earlier position) (placed_order position) ks c.proper)

  left_of_all : All (λ (k : K). T (before x (position k))) (levels (earlier position) ks) → All (λ (e : A). T (not (spans x (segment e)))) es
  unfolding spans
  left_of_all a = all_map missed es c.from
    where
      left : (y : Fraction) → IsEvent segment position es ks y → T (before x y)
      left = each_event (λ (y : Fraction). T (before x y)) (λ k s hk hs l b. before_at_most_trans x (position s) (position k) hx hs hk b l.1) a

      missed : (e : A) → IsEvent segment position es ks (segment e).from → T (not (spans x (segment e)))
      missed e i = not_T (spans x (segment e)) (λ j. T_not (before x (segment e).from) (and_yes (not (before x (segment e).from)) (before x (segment e).to) j).0 (left (segment e).from i))

  right_of_all : All (λ (k : K). T (not (before x (position k)))) (levels (earlier position) ks) → All (λ (e : A). T (not (spans x (segment e)))) es
  unfolding spans
  right_of_all a = all_map missed es c.to
    where
      right : (y : Fraction) → IsEvent segment position es ks y → T (not (before x y))
      right = each_event (λ (y : Fraction). T (not (before x y))) (λ k s hk hs l b. at_most_trans (position k) (position s) x hk hs hx l.0 b) a

      missed : (e : A) → IsEvent segment position es ks (segment e).to → T (not (spans x (segment e)))
      missed e i = not_T (spans x (segment e)) (λ j. T_not (before x (segment e).to) (right (segment e).to i) (and_yes (not (before x (segment e).from)) (before x (segment e).to) j).1)

-- ---- the statements
module _ {A K X : Type 0} (segment : A → Segment) (position : K → Fraction) (es : List A) (ks : List K) (yields : K → K → List A → List X) where
  pub sweep_all : (R : X → Type 0) → SweepAll segment position es ks yields R
  unfolding sweep
  sweep_all R c f = let ss = levels (earlier position) ks in columns_all segment position es yields R ss (neighbours_map f ss (all_columns segment position es ks c))

  pub sweep_count : (x : Fraction) (f : X → Bool) (n : ℕ) → SweepCount segment position es ks yields x f n
  unfolding sweep
  sweep_count x f n c hx elsewhere nowhere counts =
      let ss = levels (earlier position) ks in
      let each = neighbours_map counts ss (all_columns segment position es ks c) in
      count_columns segment position es yields x hx f n elsewhere ss (placed segment position es ks c) (rising segment position es ks c) each
      (λ a. nowhere (left_of_all segment position es ks c x hx a))
      (λ a. nowhere (right_of_all segment position es ks c x hx a))
