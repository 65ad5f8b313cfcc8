-- The columns filled from left to right: what holds before each event, that a turn keeps it, and what it says at each way out.
use Rattle.std.specs.Prelude.{Option, Some, None}
use mathlib.Core.Path.{◌≡◌, refl, sym, ◌∙◌, ap, subst}
use mathlib.Core.Bool.{Bool, true, false, cond}
use mathlib.Core.List.{List, [], ◌∷◌, ◌++◌, map}
use mathlib.Core.Logic.{inl, inr}
use Prim.Native.Nat.{ℕ, zero, suc, ◌+◌, ◌*◌, ◌-◌, ◌<◌, ◌≤◌, zero-le}
use native.Mathlib.Omega.{arith}
use native.Mathlib.Numerals.{add-one}
use lib.Dec.{eqb, eqb-zero-suc, eqb-suc-zero, eqb-suc-suc}
use lib.ListN.{length, get_or, drop, length-drop}
use lib.IntN.{ℤ, pos}
use borrow.Rule.Slice.PartMut.{put_mid}
use Rattle.integer.specs.declared.Int.{Int}
use Rattle.integer.specs.Fraction.{Fraction, Proper}
use Rattle.records.specs.Limits.{memory_width}
use Rattle.geometry.specs.declared.Base.{Base}
use Rattle.geometry.specs.declared.Position.{Position}
use Rattle.geometry.specs.declared.Trapezoid.{Trapezoid}
use Rattle.geometry.specs.Limit.{coordinate_limit}
use Rattle.geometry.specs.Fitness.{FitFor}
use Rattle.geometry.specs.Positions.{position}
use Rattle.sweep.specs.Segments.{Segment, spanning}
use Rattle.sweep.specs.Sweep.{columns}
use Rattle.overlay.specs.declared.Column.{Column}
use Rattle.overlay.specs.declared.Orders.{Orders}
use Rattle.overlay.specs.Overlaps.{overlaps}
use Rattle.overlay.specs.Overlay.{sides, in_range, parts, subdivision, overlay, tagged}
use Rattle.geometry_code.specs.Code.{fraction_of, PositionOf}
use Rattle.geometry_code.proofs.Branches.{small_position}
use Rattle.trapezoids_code.specs.Tails.{in_front, Borrowed, FilledAs}
use Rattle.trapezoids_code.proofs.Writing.{tail, Writing, write_start, write_stop, write_full, write_upto, write_turn}
use Rattle.sorting_code.specs.Entries.{stored, Stands}
use Rattle.sorting_code.proofs.Naming.{holds_at, names_length, names_at}
use Rattle.overlay_events_code.specs.Events.{named, entry_name, EventsWithin, Eight}
use Rattle.columns_code.specs.Order.{side_numbers, HasSides, strips, order_at}
use Rattle.columns_code.specs.Code.{OrdersAt, ColumnAt, FourSides}
use Rattle.columns_code.proofs.NumberOrder.{order_members}
use Rattle.columns_code.proofs.Network.{network_exact}
use Rattle.overlay_code.specs.Code.{of_first, columns_of, Standing, Ranged}
use Rattle.strips_code.proofs.Strips.{strips_exact}
use Rattle.overlay_code.proofs.Within.{tagged_append, neither, overlap_wide, within_enough, within_ranged}

-- ---- the order of a column
pub first_four : FourSides side_numbers
first_four = record { long = refl; all = (inl refl, (inr (inl refl), (inr (inr (inl refl)), (inr (inr (inr (inl refl))), tt)))) }

module _ {A B : Trapezoid} (ha : FitFor coordinate_limit A) (hb : FitFor coordinate_limit B) where
  pub column_four : (x : Fraction) (c : Column) → ColumnAt A B x c → FourSides c.order
  column_four x c h =
      let e = network_exact ha hb x c.in_a c.in_b (record { first = 0; second = 1; third = 2; fourth = 3 }) first_four.all in
      let l : length (order_at A B x c.in_a c.in_b) ≡ 4 = ap length (sym e) in
      record { long = ap length h.order ∙ l; all = subst HasSides (sym h.order) (order_members ha hb x c.in_a c.in_b) }

-- ---- the events
module _ {A B : Trapezoid} {n : ℕ} {a b : List ℤ} {c : List ℕ} (h : Standing A B n a b c) where
  abbrev pub bases : List Base
  bases = map (entry_name A B) (stored n a b c)

  pub bases_length : length bases ≡ n
  bases_length = names_length n a b c h.nums h.dens h.names (entry_name A B)

  -- event number i
  pub event_at : (i : ℕ) → i < n → (x y : Int) → x.v ≡ get_or a i (pos 0) → y.v ≡ get_or b i (pos 0) → PositionOf (named A B (get_or c i 0)) (record { num = x; den = y })
  event_at i l x y ex ey =
      let s = holds_at n a b c h.nums h.dens h.names (Stands position (entry_name A B)) h.stand i l in
      record {
        is = (λ j. record { num = ex j; den = ey j }) ∙ s.is;
        small = small_position (rw ex s.small.num_small) (rw ey s.small.den_small) (rw ey s.small.proper);
      }

  -- the column from event number i to the next
  pub column_next : (i : ℕ) → i + 1 < n
      → columns_of A B (drop i bases) ≡ parts A B (named A B (get_or c i 0)) (named A B (get_or c (i + 1) 0)) (spanning (λ (s : Segment). s) (position (named A B (get_or c i 0))) (sides A B)) ++ columns_of A B (drop (i + 1) bases)
  unfolding columns
  column_next i l =
      let next = names_at n a b c h.nums h.dens h.names (entry_name A B) in
      let here : drop i bases ≡ named A B (get_or c i 0) ∷ drop (i + 1) bases = rw add-one (next i (omega arith)) in
      let there = next (i + 1) l in
      ap (columns_of A B) (here ∙ ap (λ (ks : List Base). named A B (get_or c i 0) ∷ ks) there) ∙ ap (λ (ks : List Base). parts A B (named A B (get_or c i 0)) (named A B (get_or c (i + 1) 0)) (spanning (λ (s : Segment). s) (position (named A B (get_or c i 0))) (sides A B)) ++ columns_of A B ks) (sym there)

few_columns : (A B : Trapezoid) (ks : List Base) → length ks ≤ 1 → columns_of A B ks ≡ []
unfolding columns
few_columns A B [] l = refl
few_columns A B (k ∷ []) l = refl
few_columns A B (k ∷ m ∷ ks) l = absurd (omega arith)

-- ---- the loop
-- before the event with number i of n, with the order of the column left of it: k trapezoids stand in out, which has W words
pub record Filling (A B : Trapezoid) (tag W room n : ℕ) (a b : List ℤ) (c : List ℕ) (out : List ℤ) (order : List ℕ) (k i : ℕ) : Type 0 where
  pub writing : Writing W room (tagged tag (columns_of A B (map (entry_name A B) (stored n a b c)))) (tagged tag (columns_of A B (drop i (map (entry_name A B) (stored n a b c))))) out k
  pub four : FourSides order
  pub within : i ≤ n
  pub ranged : Ranged A (drop i (map (entry_name A B) (stored n a b c)))

pub fill_start : (A B : Trapezoid) (tag room n : ℕ) (a b : List ℤ) (c : List ℕ) (out : List ℤ) → Borrowed out room → Ranged A (map (entry_name A B) (stored n a b c)) → Filling A B tag (length out) room n a b c out side_numbers 0 0
fill_start A B tag room n a b c out h r = record { writing = write_start (tagged tag (columns_of A B (map (entry_name A B) (stored n a b c)))) out room h; four = first_four; within = zero-le; ranged = r }

module _ {A B : Trapezoid} (ha : FitFor coordinate_limit A) (hb : FitFor coordinate_limit B) {tag : ℕ} (ht : 1 ≤ tag) {W room n : ℕ} {a b : List ℤ} {c : List ℕ} {out : List ℤ} {order : List ℕ} {k i : ℕ}
    (s : Standing A B n a b c) (h : Filling A B tag W room n a b c out order k i) where
  pub fill_stop : n ≤ i + 1 → FilledAs W room (tagged tag (columns_of A B (bases s))) (Some k) out
  fill_stop l =
      write_stop h.writing
      (ap (tagged tag) (few_columns A B (drop i (bases s)) (let e = length-drop i (bases s) in omega (arith, e, bases_length s))) ∙ (unfold tagged in refl))

  -- the event lies in the range of A
  here_next : i + 1 < n → drop i (bases s) ≡ named A B (get_or c i 0) ∷ named A B (get_or c (i + 1) 0) ∷ drop (suc (i + 1)) (bases s)
  here_next l =
      let next = names_at n a b c s.nums s.dens s.names (entry_name A B) in
      let here : drop i (bases s) ≡ named A B (get_or c i 0) ∷ drop (i + 1) (bases s) = rw add-one (next i (omega arith)) in
      here ∙ ap (λ (ks : List Base). named A B (get_or c i 0) ∷ ks) (next (i + 1) l)

  pub fill_ranged : i + 1 < n → in_range (position (named A B (get_or c i 0))) A ≡ true
  fill_ranged l = (subst (Ranged A) (here_next l) h.ranged).0

  ranged_next : i + 1 < n → Ranged A (drop (i + 1) (bases s))
  ranged_next l = subst (Ranged A) (sym (names_at n a b c s.nums s.dens s.names (entry_name A B) (i + 1) l)) (subst (Ranged A) (here_next l) h.ranged).1

  module _ (l : i + 1 < n) {at : Position} (p : PositionOf (named A B (get_or c i 0)) at) (d : Column) (col : ColumnAt A B (fraction_of at) d) where
    abbrev from : Base
    from = named A B (get_or c i 0)

    abbrev to : Base
    to = named A B (get_or c (i + 1) 0)

    -- what a turn adds, with the column d
    abbrev more : List Trapezoid
    more = strips tag A B from to d.in_a d.in_b d.order

    abbrev later : List Trapezoid
    later = tagged tag (columns_of A B (drop (i + 1) (bases s)))

    proper : Proper (position from)
    proper = subst Proper p.is p.small.proper

    turn : tagged tag (columns_of A B (drop i (bases s))) ≡ more ++ later
    turn =
        ap (tagged tag) (column_next s i l)
        ∙ tagged_append tag (parts A B from to (spanning (λ (g : Segment). g) (position from) (sides A B))) (columns_of A B (drop (i + 1) (bases s)))
        ∙ ap (λ (ts : List Trapezoid). ts ++ later)
        (sym
        (ap (strips tag A B from to d.in_a d.in_b) (col.order ∙ ap (λ (y : Fraction). order_at A B y d.in_a d.in_b) p.is)
        ∙ strips_exact ha hb from to proper tag ht d.in_a d.in_b (col.in_a_is ∙ ap (λ (y : Fraction). in_range y A) p.is) (col.in_b_is ∙ ap (λ (y : Fraction). in_range y B) p.is)))

    module _ (f : Option ℕ) (t : List ℤ) (g : FilledAs (length (tail out k)) (room - k) more f t) where
      -- they do not fit
      pub fill_full : f ≡ None → room < length (tagged tag (columns_of A B (bases s)))
      fill_full e = write_full h.writing more later turn f t g e

      pub fill_upto : (m : ℕ) → f ≡ Some m → k + m ≤ room
      fill_upto m e = write_upto h.writing more later turn f t g m e

      pub fill_turn : (m : ℕ) → f ≡ Some m → Filling A B tag W room n a b c (put_mid (memory_width * k) (length out - memory_width * k) out t) d.order (k + m) (i + 1)
      fill_turn m e = record { writing = write_turn h.writing more later turn f t g m e; four = column_four ha hb (fraction_of at) d col; within = omega arith; ranged = ranged_next l }

-- the same orders, told of the column
pub orders_moved : {A B : Trapezoid} {x y : Fraction} {fa fb ga gb : Bool} {o : Orders} → x ≡ y → fa ≡ ga → fb ≡ gb → OrdersAt A B x fa fb o → OrdersAt A B y ga gb o
orders_moved e f g h = rw (← e, ← f, ← g) h

-- the events that were put in
pub events_ranged : {A B : Trapezoid} → FitFor coordinate_limit A → FitFor coordinate_limit B → (tag : ℕ) → of_first tag ≡ true → overlaps A B ≡ true → {n : ℕ} {a b : List ℤ} {c : List ℕ} → EventsWithin A B n a b c
    → Ranged A (map (entry_name A B) (stored n a b c))
events_ranged {A} {B} ha hb tag ht o e = subst (Ranged A) (sym e.names.is) (within_ranged ha hb tag ht (overlap_wide A B o))

pub events_stand : {A B : Trapezoid} {n : ℕ} {a b : List ℤ} {c : List ℕ} → Eight a b c → EventsWithin A B n a b c → Standing A B n a b c
events_stand e h = record { stand = h.names.stand; nums = omega (arith, h.few, e.nums); dens = omega (arith, h.few, e.dens); names = omega (arith, h.few, e.names) }

-- ---- the overlay
test_swap : (m n : ℕ) → eqb m n ≡ eqb n m
test_swap zero zero = refl
test_swap zero (suc n) = eqb-zero-suc n ∙ sym (eqb-suc-zero n)
test_swap (suc m) zero = eqb-suc-zero m ∙ sym (eqb-zero-suc m)
test_swap (suc m) (suc n) = eqb-suc-suc m n ∙ test_swap m n ∙ sym (eqb-suc-suc n m)

module _ (A B : Trapezoid) (tag room n : ℕ) (f : Option ℕ) (d : List ℤ) where
  pub overlay_columns : overlaps A B ≡ true → FilledAs n room (tagged tag (subdivision A B)) f d → FilledAs n room (tagged tag (overlay A B)) f d
  unfolding overlay
  overlay_columns e h = rw e h
  -- by the events within the range of A

module _ {A B : Trapezoid} (ha : FitFor coordinate_limit A) (hb : FitFor coordinate_limit B) (tag : ℕ) (ht : of_first tag ≡ true) (room W : ℕ) (f : Option ℕ) (d : List ℤ) where
  pub overlay_filled : overlaps A B ≡ true → {n : ℕ} {a b : List ℤ} {c : List ℕ} → EventsWithin A B n a b c → FilledAs W room (tagged tag (columns_of A B (map (entry_name A B) (stored n a b c)))) f d → FilledAs W room (tagged tag (overlay A B)) f d
  overlay_filled o {n} {a} {b} {c} e h =
      overlay_columns A B tag room W f d o
      (subst (λ (ts : List Trapezoid). FilledAs W room ts f d) (ap (λ (ks : List Base). tagged tag (columns_of A B ks)) e.names.is ∙ sym (within_enough ha hb tag ht (overlap_wide A B o))) h)

module _ (A B : Trapezoid) (tag room n : ℕ) (f : Option ℕ) (d : List ℤ) where
  pub overlay_apart : overlaps A B ≡ false → of_first tag ≡ true → FilledAs n room (in_front (eqb tag 1) A []) f d → FilledAs n room (tagged tag (overlay A B)) f d
  overlay_apart apart ht h = subst (λ (ts : List Trapezoid). FilledAs n room ts f d) (sym is) h
    where
      go : (b : Bool) → cond b (A ∷ []) [] ≡ in_front b A []
      go true = refl
      go false = refl

      is : tagged tag (overlay A B) ≡ in_front (eqb tag 1) A []
      is = unfold overlay tagged in rw (apart, (neither tag ht).1, test_swap tag 1) (go (eqb 1 tag))
