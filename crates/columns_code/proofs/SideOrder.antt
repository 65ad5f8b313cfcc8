-- The functions of a column, branch by branch as they go: the side of a number, the order of two sides, and the order of all four by five
-- exchanges.
use mathlib.Core.Path.{◌≡◌, refl, sym, ◌∙◌, ap, ap₂, subst}
use mathlib.Core.Bool.{Bool, true, false, cond, not}
use mathlib.Core.List.{List, [], ◌∷◌}
use mathlib.Core.Logic.{◌⊎◌, inl, inr}
use Prim.Native.Nat.{ℕ, zero, suc, ◌<◌, ◌≤◌}
use native.Mathlib.Omega.{arith}
use lib.Dec.{T, T_not, eqb, ltb}
use lib.ListN.{length, get_or, set, length-set}
use borrow.Author.Tests.{lt-ltb, le-ltb, eq-eqb, ne_eqb, eqb-true, eqb-false}
use Rattle.lists.specs.Lists.{All}
use Rattle.lists.proofs.Tests.{yes_or_no}
use Rattle.lists.proofs.Lists.{all_at}
use Rattle.std.specs.Ordering.{ordering_reverse, ordering_then, is_lt, nat_cmp}
use Rattle.std.specs.declared.cmp.Ordering.{Ordering}
use Rattle.std.specs.declared.cmp.Ordering.TheVariants.{Less, Equal, Greater}
use Rattle.integer.specs.Fraction.{Fraction, Proper, before}
use Rattle.geometry.specs.declared.Line.{Line}
use Rattle.geometry.specs.declared.Trapezoid.{Trapezoid}
use Rattle.geometry.specs.Limit.{coordinate_limit}
use Rattle.geometry.specs.Positions.{right_of, below}
use Rattle.geometry.specs.Fitness.{FitFor}
use Rattle.geometry.specs.declared.Placed.{Placed}
use Rattle.geometry.proofs.Heights.{below→not_below, right_less, right_greater, right_equal}
use Rattle.sweep.specs.Segments.{spans}
use Rattle.overlay.specs.declared.Column.{Column}
use Rattle.overlay.specs.declared.Meetings.{Meetings}
use Rattle.overlay.specs.declared.Orders.{Orders}
use Rattle.overlay.specs.Overlay.{tag_of, in_range}
use Rattle.geometry_code.specs.Code.{fraction_of}
use Rattle.geometry_code.proofs.Branches.{right_meeting}
use Rattle.trapezoids_code.specs.Placed.{PlacedAs}
use Rattle.overlaps_code.specs.Code.{MeetingsOf}
use Rattle.columns_code.specs.Order.{HasSides, line_of_side, present_by, less_by, number_less, order_at, passing}
use Rattle.columns_code.specs.Code.{SmallMeetings, OrdersBy, OrdersAt, ColumnAt, FourNumbers, FourSides, exchanged, Exchanged}
use Rattle.columns_code.proofs.NumberOrder.{own_below}
use Rattle.columns_code.proofs.Exchanges.{Four, four_list, exchange01, exchange23, exchange02, exchange13, exchange12, sort01, sort23, sort02, sort13, sort12, network}
use Rattle.columns_code.proofs.Network.{four_below, network_exact}

-- ---- a side by its number
module _ (A B : Trapezoid) (i : ℕ) where
  pub side_first : i ≡ 0 → A.bottom ≡ line_of_side A B i
  unfolding line_of_side
  side_first e = rw (eq-eqb i 0 e)

  pub side_second : (i ≡ 0 → ⊥) → i ≡ 1 → A.top ≡ line_of_side A B i
  unfolding line_of_side
  side_second f e = rw (ne_eqb i 0 f, eq-eqb i 1 e)

  pub side_third : (i ≡ 0 → ⊥) → (i ≡ 1 → ⊥) → i ≡ 2 → B.bottom ≡ line_of_side A B i
  unfolding line_of_side
  side_third f g e = rw (ne_eqb i 0 f, ne_eqb i 1 g, eq-eqb i 2 e)

  pub side_fourth : (i ≡ 0 → ⊥) → (i ≡ 1 → ⊥) → (i ≡ 2 → ⊥) → B.top ≡ line_of_side A B i
  unfolding line_of_side
  side_fourth f g h = rw (ne_eqb i 0 f, ne_eqb i 1 g, ne_eqb i 2 h)

  -- the greater numbers stand for the last side
  side_last : 3 ≤ i → line_of_side A B 3 ≡ line_of_side A B i
  unfolding line_of_side
  side_last h = side_fourth (λ e. omega (arith, e)) (λ e. omega (arith, e)) (λ e. omega (arith, e))

-- ---- the orders of two sides
pub small_meetings : {A B : Trapezoid} {m : Meetings} → MeetingsOf A B m → SmallMeetings m
small_meetings h = record { m02 = h.m02.small; m03 = h.m03.small; m12 = h.m12.small; m13 = h.m13.small }

-- of a trapezoid with x in its range
own_order : {t : Trapezoid} {f : Bool} → FitFor coordinate_limit t → (x : Fraction) → Proper x → f ≡ in_range x t → f ≡ true → right_of x t.bottom t.top ≡ Less
own_order {t} h x hx e y = right_less x t.bottom t.top (own_below h x hx (subst T (sym y ∙ e) tt))

pub orders_exact :
    {A B : Trapezoid} {m : Meetings} {x : Fraction} {fa fb : Bool} {o : Orders} → FitFor coordinate_limit A → FitFor coordinate_limit B → MeetingsOf A B m → OrdersBy m x o → Proper x → fa ≡ in_range x A → fb ≡ in_range x B → OrdersAt A B x fa fb o
unfolding line_of_side
orders_exact ha hb h k hx ea eb = record {
  o02 = k.o02 ∙ right_meeting _ _ _ _ h.m02;
  o03 = k.o03 ∙ right_meeting _ _ _ _ h.m03;
  o12 = k.o12 ∙ right_meeting _ _ _ _ h.m12;
  o13 = k.o13 ∙ right_meeting _ _ _ _ h.m13;
  first = own_order ha _ hx ea;
  second = own_order hb _ hx eb;
}

right_reverse : (x : Fraction) (l m : Line) → ordering_reverse (right_of x l m) ≡ right_of x m l
right_reverse x l m = elim (yes_or_no (below x l m)) [
  | inl h ↦ rw (right_less x l m h) (sym (right_greater x m l h))
  | inr h ↦ elim (yes_or_no (below x m l)) [
    | inl k ↦ rw (right_greater x l m k) (sym (right_less x m l k))
    | inr k ↦ rw (right_equal x l m h k) (sym (right_equal x m l k h))
  ]
]

right_itself : (x : Fraction) (l : Line) → Equal ≡ right_of x l l
right_itself x l = elim (yes_or_no (below x l l)) [ inl h ↦ absurd (T_not (below x l l) (below→not_below x l l h) h) | inr h ↦ sym (right_equal x l l h h) ]

module _ (A B : Trapezoid) (x : Fraction) (i j : ℕ) where
  pub order_at_lem : {m n : ℕ} {r : Ordering} → i ≡ m → j ≡ n → r ≡ right_of x (line_of_side A B m) (line_of_side A B n) → r ≡ right_of x (line_of_side A B i) (line_of_side A B j)
  order_at_lem e f h = h ∙ ap₂ (λ (m n : ℕ). right_of x (line_of_side A B m) (line_of_side A B n)) (sym e) (sym f)

  pub order_below_last : {m : ℕ} {r : Ordering} → i ≡ m → 3 ≤ j → r ≡ right_of x (line_of_side A B m) (line_of_side A B 3) → r ≡ right_of x (line_of_side A B i) (line_of_side A B j)
  order_below_last e l h = h ∙ ap₂ (λ (m : ℕ). right_of x (line_of_side A B m)) (sym e) (side_last A B j l)

  pub order_last : 3 ≤ i → i < j → Equal ≡ right_of x (line_of_side A B i) (line_of_side A B j)
  order_last h l = right_itself x (line_of_side A B 3) ∙ ap₂ (right_of x) (side_last A B i h) (side_last A B j (omega arith))

  pub order_turned : {o r : Ordering} → r ≡ ordering_reverse o → o ≡ right_of x (line_of_side A B j) (line_of_side A B i) → r ≡ right_of x (line_of_side A B i) (line_of_side A B j)
  order_turned e f = e ∙ ap ordering_reverse f ∙ right_reverse x (line_of_side A B j) (line_of_side A B i)

  pub order_same : i ≡ j → Equal ≡ right_of x (line_of_side A B i) (line_of_side A B j)
  order_same e = right_itself x (line_of_side A B i) ∙ ap (λ (k : ℕ). right_of x (line_of_side A B i) (line_of_side A B k)) e

module _ (fa fb : Bool) (i : ℕ) where
  pub first_present : i < 2 → fa ≡ present_by fa fb i
  unfolding present_by
  first_present h = rw (lt-ltb i 2 h)

  pub present_second : 2 ≤ i → fb ≡ present_by fa fb i
  unfolding present_by
  present_second h = rw (le-ltb i 2 h)

-- sides of one trapezoid are present both or neither
module _ (fa fb : Bool) (i j : ℕ) where
  pub present_A : i < 2 → j < 2 → (present_by fa fb i ≡ true) ⊎ (present_by fa fb j ≡ true) → fa ≡ true
  present_A k l (inl h) = first_present fa fb i k ∙ h
  present_A k l (inr h) = first_present fa fb j l ∙ h

  pub present_B : 2 ≤ i → 2 ≤ j → (present_by fa fb i ≡ true) ⊎ (present_by fa fb j ≡ true) → fb ≡ true
  present_B k l (inl h) = present_second fa fb i k ∙ h
  present_B k l (inr h) = present_second fa fb j l ∙ h

-- ---- the order of two sides
module _ (A B : Trapezoid) (p : Fraction) (fa fb : Bool) (i j : ℕ) where
  less_both : (o : Ordering) (r : Bool) → present_by fa fb i ≡ true → present_by fa fb j ≡ true → o ≡ right_of p (line_of_side A B i) (line_of_side A B j) → r ≡ less_by o (ltb i j) → r ≡ number_less A B p fa fb i j
  unfolding number_less
  less_both o r e f oe re = re ∙ ap (λ (o : Ordering). less_by o (ltb i j)) oe ∙ rw (e, f)

  -- by their order, then by number
  pub less_then : (o : Ordering) → present_by fa fb i ≡ true → present_by fa fb j ≡ true → o ≡ right_of p (line_of_side A B i) (line_of_side A B j) → is_lt (ordering_then o (nat_cmp i j)) ≡ number_less A B p fa fb i j
  less_then o e f oe = less_both o (is_lt (ordering_then o (nat_cmp i j))) e f oe (by_number o)
    where
      tested : (s t : Bool) → is_lt (cond s Less (cond t Equal Greater)) ≡ s
      tested true t = refl
      tested false true = refl
      tested false false = refl

      by_number : (o : Ordering) → is_lt (ordering_then o (nat_cmp i j)) ≡ less_by o (ltb i j)
      by_number Less = refl
      by_number Equal = tested (ltb i j) (eqb i j)
      by_number Greater = refl

  -- by the order of the side with the lower number and the other
  pub less_up : (o : Ordering) (r : Bool) → i < j → present_by fa fb i ≡ true → present_by fa fb j ≡ true → o ≡ right_of p (line_of_side A B i) (line_of_side A B j) → r ≡ less_by o true → r ≡ number_less A B p fa fb i j
  less_up o r l e f oe re = less_both o r e f oe (re ∙ ap (less_by o) (sym (lt-ltb i j l)))

  pub less_down : (o : Ordering) (r : Bool) → j < i → present_by fa fb i ≡ true → present_by fa fb j ≡ true → o ≡ right_of p (line_of_side A B j) (line_of_side A B i) → r ≡ less_by o true → not r ≡ number_less A B p fa fb i j
  less_down o r l e f oe re = less_both (ordering_reverse o) (not r) e f (order_turned A B p i j refl oe) (ap not re ∙ turned o ∙ ap (less_by (ordering_reverse o)) (sym (le-ltb i j (omega (arith, l)))))
    where
      turned : (o : Ordering) → not (less_by o true) ≡ less_by (ordering_reverse o) false
      turned Less = refl
      turned Equal = refl
      turned Greater = refl

  pub less_same : i ≡ j → present_by fa fb i ≡ true → present_by fa fb j ≡ true → false ≡ number_less A B p fa fb i j
  less_same same e f = less_both Equal false e f (order_same A B p i j same) (sym (le-ltb i j (omega (arith, same))))

  pub less_first : present_by fa fb i ≡ true → present_by fa fb j ≡ false → true ≡ number_less A B p fa fb i j
  unfolding number_less
  less_first e f = rw (e, f)

  pub less_second : present_by fa fb i ≡ false → present_by fa fb j ≡ true → false ≡ number_less A B p fa fb i j
  unfolding number_less
  less_second e f = rw (e, f)

  pub less_neither : present_by fa fb i ≡ false → present_by fa fb j ≡ false → ltb i j ≡ number_less A B p fa fb i j
  unfolding number_less
  less_neither e f = rw (e, f)

-- of two sides the one or the other is in front
pub less_turned : (A B : Trapezoid) (p : Fraction) (fa fb : Bool) (i j : ℕ) {r : Bool} → j < i → r ≡ number_less A B p fa fb j i → not r ≡ number_less A B p fa fb i j
less_turned A B p fa fb i j l e = ap not e ∙ go (present_by fa fb i) (present_by fa fb j) refl refl
  where
    go : (u v : Bool) → present_by fa fb i ≡ u → present_by fa fb j ≡ v → not (number_less A B p fa fb j i) ≡ number_less A B p fa fb i j
    go true true f g =
        let o = right_of p (line_of_side A B j) (line_of_side A B i) in
        ap not (sym (less_up A B p fa fb j i o (less_by o true) l g f refl refl)) ∙ less_down A B p fa fb i j o (less_by o true) l f g refl refl
    go true false f g = ap not (sym (less_second A B p fa fb j i g f)) ∙ less_first A B p fa fb i j f g
    go false true f g = ap not (sym (less_first A B p fa fb j i g f)) ∙ less_second A B p fa fb i j f g
    go false false f g = ap not (sym (less_neither A B p fa fb j i g f) ∙ lt-ltb j i l) ∙ sym (le-ltb i j (omega arith)) ∙ less_neither A B p fa fb i j f g

pub itself_not_less : (A B : Trapezoid) (p : Fraction) (fa fb : Bool) (i j : ℕ) → i ≡ j → false ≡ number_less A B p fa fb i j
itself_not_less A B p fa fb i j e = go (present_by fa fb i) refl
  where
    other : {u : Bool} → present_by fa fb i ≡ u → present_by fa fb j ≡ u
    other f = ap (present_by fa fb) (sym e) ∙ f

    go : (u : Bool) → present_by fa fb i ≡ u → false ≡ number_less A B p fa fb i j
    go true f = less_same A B p fa fb i j e f (other f)
    go false f = sym (le-ltb i j (omega (arith, e))) ∙ less_neither A B p fa fb i j f (other f)

pub less_at : (A B : Trapezoid) (p : Fraction) (fa fb : Bool) {i j m n : ℕ} {r : Bool} → i ≡ m → j ≡ n → r ≡ number_less A B p fa fb m n → r ≡ number_less A B p fa fb i j
less_at A B p fa fb e f h = h ∙ ap₂ (number_less A B p fa fb) (sym e) (sym f)

-- ---- past a side
module _ (b t z : ℕ) (f : Bool) where
  pub pass_bottom : z ≡ b → true ≡ passing b t z f
  pass_bottom e = rw (eq-eqb z b e)

  pub pass_top : (z ≡ b → ⊥) → z ≡ t → false ≡ passing b t z f
  pass_top n e = rw (ne_eqb z b n, eq-eqb z t e)

  pub pass_other : (z ≡ b → ⊥) → (z ≡ t → ⊥) → f ≡ passing b t z f
  pass_other n m = rw (ne_eqb z b n, ne_eqb z t m)

-- ---- a tag
eqb_turn : (m n : ℕ) → eqb m n ≡ eqb n m
eqb_turn m n = go (eqb m n) refl
  where
    go : (t : Bool) → eqb m n ≡ t → eqb m n ≡ eqb n m
    go true e = e ∙ sym (eq-eqb n m (sym (eqb-true m n e)))
    go false e = e ∙ sym (ne_eqb n m (λ q. eqb-false m n e (sym q)))

pub tag_is : (n : ℕ) {fa fb ga gb : Bool} → fa ≡ ga → fb ≡ gb → eqb n (tag_of ga gb) ≡ eqb (tag_of fa fb) n
tag_is n {fa} {fb} {ga} {gb} e f = eqb_turn n (tag_of ga gb) ∙ ap₂ (λ (g h : Bool). eqb (tag_of g h) n) (sym e) (sym f)

-- ---- the range of a trapezoid
module _ (a : Placed) (x : Fraction) (h : PlacedAs a.shape a) where
  pub range_left : before x (fraction_of a.left) ≡ true → false ≡ in_range x a.shape
  unfolding spans
  range_left e = rw (ap (before x) (sym h.left.is) ∙ e)

  pub range_right : {r : Bool} → before x (fraction_of a.left) ≡ false → r ≡ before x (fraction_of a.right) → r ≡ in_range x a.shape
  unfolding spans
  range_right e f = rw (ap (before x) (sym h.left.is) ∙ e) (f ∙ ap (before x) h.right.is)

-- ---- one exchange
module _ (less : ℕ → ℕ → Bool) (i j : ℕ) (l : List ℕ) where
  pub exchange_yes : (r : Bool) → r ≡ less (get_or l j 0) (get_or l i 0) → r ≡ true → set (set l i (get_or l j 0)) j (get_or l i 0) ≡ exchanged less i j l
  exchange_yes r h e = rw (sym h ∙ e)

  pub exchange_no : (r : Bool) → r ≡ less (get_or l j 0) (get_or l i 0) → r ≡ false → l ≡ exchanged less i j l
  exchange_no r h e = rw (sym h ∙ e)

-- four side numbers stay that
all_set : (P : ℕ → Type 0) (l : List ℕ) (i x : ℕ) → All P l → P x → All P (set l i x)
all_set P [] i x h k = tt
all_set P (y ∷ l) zero x h k = (k, h.1)
all_set P (y ∷ l) (suc i) x h k = (h.0, all_set P l i x h.1 k)

pub entry_small : {l : List ℕ} → FourNumbers l → (i : ℕ) → i < 4 → get_or l i 0 < 4
entry_small {l} h i b = all_at (λ (y : ℕ). y < 4) l i 0 h.small (subst (λ (n : ℕ). i < n) (sym h.long) b)

pub set_four : {l : List ℕ} (i x : ℕ) → x < 4 → FourNumbers l → FourNumbers (set l i x)
set_four {l} i x k h = record { long = length-set l i x ∙ h.long; small = all_set (λ (y : ℕ). y < 4) l i x h.small k }

-- ---- five exchanges
four_of : List ℕ → Four
four_of l = record { first = get_or l 0 0; second = get_or l 1 0; third = get_or l 2 0; fourth = get_or l 3 0 }

four_entries : (l : List ℕ) → length l ≡ 4 → l ≡ four_list (four_of l)
unfolding four_of
four_entries [] e = absurd (omega arith)
four_entries (a ∷ []) e = absurd (omega arith)
four_entries (a ∷ b ∷ []) e = absurd (omega arith)
four_entries (a ∷ b ∷ c ∷ []) e = absurd (omega arith)
four_entries (a ∷ b ∷ c ∷ d ∷ []) e = refl
four_entries (a ∷ b ∷ c ∷ d ∷ f ∷ l) e = absurd (omega arith)

pub four_numbers : {l : List ℕ} → FourSides l → FourNumbers l
four_numbers {l} h = let e = four_entries l h.long in record { long = h.long; small = subst (All (λ (y : ℕ). y < 4)) (sym e) (four_below (subst HasSides e h.all)) }

module _ (less : ℕ → ℕ → Bool) (x : Four) where
  list01 : exchanged less 0 1 (four_list x) ≡ four_list (sort01 less x)
  unfolding sort01
  list01 = go (less x.second x.first)
    where
      go : (t : Bool) → cond t (x.second ∷ x.first ∷ x.third ∷ x.fourth ∷ []) (four_list x) ≡ four_list (exchange01 t x)
      go true = refl
      go false = refl

  list23 : exchanged less 2 3 (four_list x) ≡ four_list (sort23 less x)
  unfolding sort23
  list23 = go (less x.fourth x.third)
    where
      go : (t : Bool) → cond t (x.first ∷ x.second ∷ x.fourth ∷ x.third ∷ []) (four_list x) ≡ four_list (exchange23 t x)
      go true = refl
      go false = refl

  list02 : exchanged less 0 2 (four_list x) ≡ four_list (sort02 less x)
  unfolding sort02
  list02 = go (less x.third x.first)
    where
      go : (t : Bool) → cond t (x.third ∷ x.second ∷ x.first ∷ x.fourth ∷ []) (four_list x) ≡ four_list (exchange02 t x)
      go true = refl
      go false = refl

  list13 : exchanged less 1 3 (four_list x) ≡ four_list (sort13 less x)
  unfolding sort13
  list13 = go (less x.fourth x.second)
    where
      go : (t : Bool) → cond t (x.first ∷ x.fourth ∷ x.third ∷ x.second ∷ []) (four_list x) ≡ four_list (exchange13 t x)
      go true = refl
      go false = refl

  list12 : exchanged less 1 2 (four_list x) ≡ four_list (sort12 less x)
  unfolding sort12
  list12 = go (less x.third x.second)
    where
      go : (t : Bool) → cond t (x.first ∷ x.third ∷ x.second ∷ x.fourth ∷ []) (four_list x) ≡ four_list (exchange12 t x)
      go true = refl
      go false = refl

-- the column has the flags fa and fb, and its order is x
record Stands (fa fb : Bool) (x : Four) (c : Column) : Type 0 where
  in_a_is : c.in_a ≡ fa
  in_b_is : c.in_b ≡ fb
  order : c.order ≡ four_list x

module _ (A B : Trapezoid) (p : Fraction) (fa fb : Bool) where
  stands_next : (i j : ℕ) (x y : Four) (c r : Column) → exchanged (number_less A B p fa fb) i j (four_list x) ≡ four_list y → Stands fa fb x c → Exchanged A B p fa fb i j c r → Stands fa fb y r
  stands_next i j x y c r e s h = record {
    in_a_is = h.in_a_is ∙ s.in_a_is;
    in_b_is = h.in_b_is ∙ s.in_b_is;
    order = h.order ∙ ap (exchanged (number_less A B p fa fb) i j) s.order ∙ e;
  }

pub column_exact : {A B : Trapezoid} → FitFor coordinate_limit A → FitFor coordinate_limit B → (p : Fraction) (d e f g h r : Column) → FourSides d.order → d.in_a ≡ in_range p A → d.in_b ≡ in_range p B → Exchanged A B p d.in_a d.in_b 0 1 d e → Exchanged A B p d.in_a d.in_b 2 3 e f → Exchanged A B p d.in_a d.in_b 0 2 f g → Exchanged A B p d.in_a d.in_b 1 3 g h → Exchanged A B p d.in_a d.in_b 1 2 h r → ColumnAt A B p r
unfolding network
column_exact {A} {B} ha hb p d e f g h r s ea eb de ef fg gh hr =
    let fa = d.in_a in
    let fb = d.in_b in
    let less = number_less A B p fa fb in
    let x₀ = four_of d.order in
    let x₁ = sort01 less x₀ in
    let x₂ = sort23 less x₁ in
    let x₃ = sort02 less x₂ in
    let x₄ = sort13 less x₃ in
    let x₅ = sort12 less x₄ in
    let e₀ : d.order ≡ four_list x₀ = four_entries d.order s.long in
    let s₁ = stands_next A B p fa fb 0 1 x₀ x₁ d e (list01 less x₀) (record { in_a_is = refl; in_b_is = refl; order = e₀ }) de in
    let s₂ = stands_next A B p fa fb 2 3 x₁ x₂ e f (list23 less x₁) s₁ ef in
    let s₃ = stands_next A B p fa fb 0 2 x₂ x₃ f g (list02 less x₂) s₂ fg in
    let s₄ = stands_next A B p fa fb 1 3 x₃ x₄ g h (list13 less x₃) s₃ gh in
    let s₅ = stands_next A B p fa fb 1 2 x₄ x₅ h r (list12 less x₄) s₄ hr in
    let o : four_list x₅ ≡ order_at A B p fa fb = network_exact ha hb p fa fb x₀ (subst HasSides e₀ s.all) in
    record { in_a_is = s₅.in_a_is ∙ ea; in_b_is = s₅.in_b_is ∙ eb; order = s₅.order ∙ o ∙ ap₂ (order_at A B p) (sym s₅.in_a_is) (sym s₅.in_b_is) }
