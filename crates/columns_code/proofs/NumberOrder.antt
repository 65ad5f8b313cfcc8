-- The order of side numbers: a strict order in which no two numbers are level, so that a rising list of the four numbers is `order_at`.
use mathlib.Core.Path.{◌≡◌, refl, sym, subst}
use mathlib.Core.Bool.{Bool, true, false, not, cond}
use mathlib.Core.List.{List, [], ◌∷◌}
use mathlib.Core.Logic.{◌⊎◌, inl, inr}
use Prim.Native.Nat.{ℕ, zero, suc, ◌≤◌, ◌<◌}
use native.Mathlib.Omega.{arith}
use lib.Dec.{T, T_not, not_T, eqb, ltb, eqb→eq, eqb_refl, ltb→lt, nltb→le}
use lib.IntN.{pos}
use mir.Facts.{and_yes}
use Rattle.lists.specs.Lists.{All, Member}
use Rattle.lists.proofs.Tests.{true_is, false_is, yes_or_no, cond_cases}
use Rattle.lists.proofs.Lists.{all_map, any_map}
use Rattle.lists.proofs.Members.{all_member, members}
use Rattle.std.specs.declared.cmp.Ordering.{Ordering}
use Rattle.std.specs.declared.cmp.Ordering.TheVariants.{Less, Equal, Greater}
use Rattle.integer.specs.Fraction.{Fraction, Proper, before, mediant}
use Rattle.integer.proofs.Linear.{zarith}
use Rattle.integer.proofs.Fraction.{at_most_before_trans, mediant_proper, mediant_after, mediant-before}
use Rattle.levels.specs.Levels.{AtMost, Level, StrictWeakOrder, Rising, FirstOfLevel}
use Rattle.levels.proofs.Order.{level_refl}
use Rattle.levels.proofs.Laws.{levels_all, levels_rising, levels_cover}
use Rattle.levels.proofs.Unique.{levels_exact}
use Rattle.geometry.specs.declared.Line.{Line}
use Rattle.geometry.specs.declared.Trapezoid.{Trapezoid}
use Rattle.geometry.specs.Lines.{IsLine, det}
use Rattle.geometry.specs.Positions.{gap, position, right_of, is_less, below}
use Rattle.geometry.specs.Fitness.{FitFor, BelowBetween}
use Rattle.geometry.proofs.Heights.{below→not_below, coincide_everywhere, right_total, right_less, right_greater, right_equal, right_trans}
use Rattle.geometry.proofs.Between.{order_from}
use Rattle.geometry.proofs.Fitness.{left_proper, right_proper, bottom_line, top_line}
use Rattle.sweep.specs.Segments.{spans}
use Rattle.overlay.specs.Overlay.{in_range}
use Rattle.columns_code.specs.Order.{side_numbers, HasSides, line_of_side, present_by, less_by, present_first, number_less, order_at}

-- a number below 4 is a side's, and is in each list that has all four
below_four : (i : ℕ) → i < 4 → Member i side_numbers
below_four zero h = inl refl
below_four (suc zero) h = inr (inl refl)
below_four (suc (suc zero)) h = inr (inr (inl refl))
below_four (suc (suc (suc zero))) h = inr (inr (inr (inl refl)))
below_four (suc (suc (suc (suc i)))) h = absurd (omega arith)

pub number_sides : HasSides side_numbers
number_sides = members side_numbers

pub has_side : (ys : List ℕ) → HasSides ys → (i : ℕ) → i < 4 → Member i ys
has_side ys h i b = all_member (λ (k : ℕ). Member k ys) i side_numbers h (below_four i b)

-- ---- in the range of a trapezoid its bottom is below its top
pub own_below : {L : ℕ} {t : Trapezoid} → FitFor L t → (x : Fraction) → Proper x → T (in_range x t) → T (below x t.bottom t.top)
unfolding spans
own_below {L} {t} h x hx r = go (right_total x t.bottom t.top)
  where
    k : T (not (before x (position t.left))) × T (before x (position t.right))
    k = and_yes (not (before x (position t.left))) (before x (position t.right)) r

    apart : BelowBetween x (position t.right) t.bottom t.top
    apart y hy u v = h.sides y hy (at_most_before_trans (position t.left) x y (left_proper h) hx hy k.0 u) v

    -- between x and the right base
    y : Fraction
    y = mediant x (position t.right)

    go : T (below x t.bottom t.top) ⊎ (((gap t.bottom t.top x ≡ pos 0) × (det t.bottom t.top ≡ pos 0)) ⊎ T (below x t.top t.bottom)) → T (below x t.bottom t.top)
    go (inl b) = b
    go (inr (inl c)) =
        let z = coincide_everywhere x y t.bottom t.top hx c.0 c.1 in
        let g = apart y (mediant_proper x (position t.right) hx (right_proper h)) (mediant_after x (position t.right) k.1) (mediant-before x (position t.right) k.1) in
        absurd (omega (zarith, z))
    go (inr (inr b)) = absurd (T_not (below x t.top t.bottom) (order_from x (position t.right) t.bottom t.top hx (right_proper h) k.1 apart) b)

-- ---- an order of numbers in which those that are level go by number
abbrev tie_by : Bool → Bool → Bool → Bool
tie_by s t u = cond s true (cond t false u)

tie_yes : (s t u : Bool) → T (tie_by s t u) → T s ⊎ (T (not t) × T u)
tie_yes true t u h = inl tt
tie_yes false true u h = absurd h
tie_yes false false u h = inr (tt, h)

tie_no : (s t u : Bool) → T (not (tie_by s t u)) → T (not s) × (T (not t) → T (not u))
tie_no true t u h = absurd h
tie_no false true u h = (tt, (λ k. absurd k))
tie_no false false u h = (tt, (λ k. h))

no_tie : (s t u : Bool) → T (not s) → (T (not t) → T (not u)) → T (not (tie_by s t u))
no_tie true t u h f = h
no_tie false true u h f = tt
no_tie false false u h f = f tt

module _ (first : ℕ → ℕ → Bool) where
  abbrev tied : ℕ → ℕ → Bool
  tied i j = tie_by (first i j) (first j i) (ltb i j)

  module _ (o : StrictWeakOrder first (λ (i : ℕ). Unit {0})) where
    at_most : (i j : ℕ) → AtMost tied i j → AtMost first i j × (AtMost first j i → i ≤ j)
    at_most i j h = let k = tie_no (first j i) (first i j) (ltb j i) h in (k.0, (λ l. nltb→le j i (k.1 l)))

    tied_ordered : StrictWeakOrder tied (λ (i : ℕ). Unit {0})
    tied_ordered = record { asymmetric = asymmetric; transitive = transitive }
      where
        asymmetric : (i j : ℕ) → T (tied i j) → AtMost tied i j
        asymmetric i j h = go (tie_yes (first i j) (first j i) (ltb i j) h)
          where
            go : T (first i j) ⊎ (T (not (first j i)) × T (ltb i j)) → AtMost tied i j
            go (inl k) = no_tie (first j i) (first i j) (ltb j i) (o.asymmetric i j k) (λ n. absurd (T_not (first i j) n k))
            go (inr k) = no_tie (first j i) (first i j) (ltb j i) k.0 (λ n. not_T (ltb j i) (λ l. let a = ltb→lt i j k.1 in let b = ltb→lt j i l in omega arith))

        transitive : (i j k : ℕ) → Unit {0} → Unit {0} → Unit {0} → AtMost tied i j → AtMost tied j k → AtMost tied i k
        transitive i j k gi gj gk h l =
            let a = at_most i j h in
            let b = at_most j k l in
            no_tie (first k i) (first i k) (ltb k i) (o.transitive i j k tt tt tt a.0 b.0) (λ n. not_T (ltb k i) (λ m.
            let c = a.1 (o.transitive j k i tt tt tt b.0 n) in
            let d = b.1 (o.transitive k i j tt tt tt n a.0) in
            let e = ltb→lt k i m in
            omega arith))

    tied_total : (i j : ℕ) → Level tied i j → i ≡ j
    tied_total i j l =
        let a = at_most i j l.0 in
        let b = at_most j i l.1 in
        let c = a.1 b.0 in
        let d = b.1 a.0 in
        omega arith

-- ---- the sides without their numbers: present ones first, and those by their lines
first_turn : (u v s t : Bool) → (T s → T (not t)) → T (present_first u v s false) → T (not (present_first v u t false))
first_turn true true s t f h = f h
first_turn true false s t f h = tt
first_turn false true s t f h = absurd h
first_turn false false s t f h = absurd h

-- u, v and w for three sides, s for the second against the first, t for the third against the second
first_chain : (u v w s t r : Bool) → (T (not s) → T (not t) → T (not r)) → T (not (present_first v u s false)) → T (not (present_first w v t false)) → T (not (present_first w u r false))
first_chain true true true s t r f h k = f h k
first_chain true true false s t r f h k = tt
first_chain true false true s t r f h k = absurd k
first_chain true false false s t r f h k = tt
first_chain false true w s t r f h k = absurd h
first_chain false false true s t r f h k = absurd k
first_chain false false false s t r f h k = tt

first_tied : (u v o s t x : Bool) → o ≡ tie_by s t x → present_first u v o x ≡ tie_by (present_first u v s false) (present_first v u t false) x
first_tied true true o s t x e = e
first_tied true false o s t x e = refl
first_tied false true o s t x e = refl
first_tied false false o s t x e = refl

module _ (A B : Trapezoid) (p : Fraction) (fa fb : Bool) where
  line_less : ℕ → ℕ → Bool
  line_less i j = present_first (present_by fa fb i) (present_by fa fb j) (below p (line_of_side A B i) (line_of_side A B j)) false

  number_tied : (i j : ℕ) → number_less A B p fa fb i j ≡ tied line_less i j
  unfolding number_less line_less
  number_tied i j = first_tied (present_by fa fb i) (present_by fa fb j) (less_by (right_of p l m) (ltb i j)) (below p l m) (below p m l) (ltb i j) (go (yes_or_no (below p l m)) (yes_or_no (below p m l)))
    where
      l : Line
      l = line_of_side A B i

      m : Line
      m = line_of_side A B j

      go : T (below p l m) ⊎ T (not (below p l m)) → T (below p m l) ⊎ T (not (below p m l)) → less_by (right_of p l m) (ltb i j) ≡ tie_by (below p l m) (below p m l) (ltb i j)
      go (inl a) b = let e : below p l m ≡ true = true_is a in rw (right_less p l m a, e)
      go (inr a) (inl b) = let e : below p l m ≡ false = false_is a in let f : below p m l ≡ true = true_is b in rw (right_greater p l m b, e, f)
      go (inr a) (inr b) = let e : below p l m ≡ false = false_is a in let f : below p m l ≡ false = false_is b in rw (right_equal p l m a b, e, f)

-- ---- what the test says of two sides
first_both : (u v s t : Bool) → T u → T v → T (present_first u v s t) → T s
first_both true true s t a b h = h
first_both true false s t a b h = absurd b
first_both false v s t a b h = absurd a

both_first : (u v s t : Bool) → T u → T v → T s → T (present_first u v s t)
both_first true true s t a b h = h
both_first true false s t a b h = absurd b
both_first false v s t a b h = absurd a

module _ (A B : Trapezoid) (p : Fraction) (fa fb : Bool) (i j : ℕ) where
  -- by its parts
  pub number_by : (u v t : Bool) (o : Ordering) → present_by fa fb i ≡ u → present_by fa fb j ≡ v → right_of p (line_of_side A B i) (line_of_side A B j) ≡ o → ltb i j ≡ t → number_less A B p fa fb i j ≡ present_first u v (less_by o t) t
  unfolding number_less
  number_by u v t o eu ev eo et = rw (eu, ev, eo, et)

  -- a present side comes before one that is not
  pub present_less : T (present_by fa fb i) → T (not (present_by fa fb j)) → T (number_less A B p fa fb i j)
  unfolding number_less
  present_less a b = go (present_by fa fb i) (present_by fa fb j) a b
    where
      go : (u v : Bool) → T u → T (not v) → T (present_first u v (less_by (right_of p (line_of_side A B i) (line_of_side A B j)) (ltb i j)) (ltb i j))
      go true true a b = absurd b
      go true false a b = tt
      go false v a b = absurd a

  -- what comes before a present side is present
  pub less_present : T (present_by fa fb j) → T (number_less A B p fa fb i j) → T (present_by fa fb i)
  unfolding number_less
  less_present b h = go (present_by fa fb i) (present_by fa fb j) b h
    where
      go : (u v : Bool) → T v → T (present_first u v (less_by (right_of p (line_of_side A B i) (line_of_side A B j)) (ltb i j)) (ltb i j)) → T u
      go true v b h = tt
      go false true b h = h
      go false false b h = absurd b

  module _ (hi : T (present_by fa fb i)) (hj : T (present_by fa fb j)) where
    -- of present sides the lower line comes first
    pub below_less : T (below p (line_of_side A B i) (line_of_side A B j)) → T (number_less A B p fa fb i j)
    unfolding number_less
    below_less b = both_first (present_by fa fb i) (present_by fa fb j) (less_by (right_of p (line_of_side A B i) (line_of_side A B j)) (ltb i j)) (ltb i j) hi hj (rw (right_less p (line_of_side A B i) (line_of_side A B j) b) tt)

    by_lines : T (number_less A B p fa fb i j) → T (less_by (right_of p (line_of_side A B i) (line_of_side A B j)) (ltb i j))
    unfolding number_less
    by_lines h = first_both (present_by fa fb i) (present_by fa fb j) (less_by (right_of p (line_of_side A B i) (line_of_side A B j)) (ltb i j)) (ltb i j) hi hj h

    pub less_not_below : T (number_less A B p fa fb i j) → T (not (below p (line_of_side A B j) (line_of_side A B i)))
    less_not_below h = not_T (below p (line_of_side A B j) (line_of_side A B i)) (λ b. rw (right_greater p (line_of_side A B i) (line_of_side A B j) b) at (by_lines h))

    -- against the numbers only the lines decide
    pub less_below : T (ltb j i) → T (number_less A B p fa fb i j) → T (below p (line_of_side A B i) (line_of_side A B j))
    unfolding below
    less_below n h = go (right_of p (line_of_side A B i) (line_of_side A B j)) (by_lines h)
      where
        go : (o : Ordering) → T (less_by o (ltb i j)) → T (is_less o)
        go Less k = tt
        go Equal k = let a = ltb→lt i j k in let b = ltb→lt j i n in absurd (omega arith)
        go Greater k = k

-- the bottom of each trapezoid comes before its top
module _ (A B : Trapezoid) (p : Fraction) (fa fb : Bool) where
  pub first_sides : (T fa → T (below p A.bottom A.top)) → T (number_less A B p fa fb 0 1)
  unfolding number_less present_by line_of_side
  first_sides h = go fa h
    where
      go : (f : Bool) → (T f → T (below p A.bottom A.top)) → T (present_first f f (less_by (right_of p A.bottom A.top) true) true)
      go true h = rw (right_less p A.bottom A.top (h tt)) tt
      go false h = tt

  pub second_sides : (T fb → T (below p B.bottom B.top)) → T (number_less A B p fa fb 2 3)
  unfolding number_less present_by line_of_side
  second_sides h = go fb h
    where
      go : (f : Bool) → (T f → T (below p B.bottom B.top)) → T (present_first f f (less_by (right_of p B.bottom B.top) true) true)
      go true h = rw (right_less p B.bottom B.top (h tt)) tt
      go false h = tt

-- ---- fit trapezoids
module _ {L : ℕ} {A B : Trapezoid} (ha : FitFor L A) (hb : FitFor L B) where
  pub side_line : (i : ℕ) → IsLine (line_of_side A B i)
  unfolding line_of_side
  side_line i =
      cond_cases IsLine (eqb i 0) A.bottom (cond (eqb i 1) A.top (cond (eqb i 2) B.bottom B.top)) (λ t. bottom_line ha) (λ t.
      cond_cases IsLine (eqb i 1) A.top (cond (eqb i 2) B.bottom B.top) (λ t. top_line ha) (λ t.
      cond_cases IsLine (eqb i 2) B.bottom B.top (λ t. bottom_line hb) (λ t. top_line hb)))

  module _ (p : Fraction) (fa fb : Bool) where
    line_ordered : StrictWeakOrder (line_less A B p fa fb) (λ (i : ℕ). Unit {0})
    unfolding line_less
    line_ordered =
        record {
          asymmetric = λ i j. first_turn (present_by fa fb i) (present_by fa fb j) (below p (line_of_side A B i) (line_of_side A B j)) (below p (line_of_side A B j) (line_of_side A B i)) (below→not_below p (line_of_side A B i) (line_of_side A B j));
          transitive = λ i j k gi gj gk. first_chain (present_by fa fb i) (present_by fa fb j) (present_by fa fb k) (below p (line_of_side A B j) (line_of_side A B i)) (below p (line_of_side A B k) (line_of_side A B j)) (below p (line_of_side A B k) (line_of_side A B i)) (right_trans p (line_of_side A B i) (line_of_side A B j) (line_of_side A B k) (side_line i) (side_line j) (side_line k));
        }

    -- a strict order of all numbers
    pub number_ordered : StrictWeakOrder (number_less A B p fa fb) (λ (i : ℕ). Unit {0})
    number_ordered =
        let o = tied_ordered (line_less A B p fa fb) line_ordered in
        record {
          asymmetric = λ i j h. rw number_tied (o.asymmetric i j (rw number_tied at h));
          transitive = λ i j k gi gj gk h l. rw number_tied (o.transitive i j k tt tt tt (rw number_tied at h) (rw number_tied at l));
        }

    -- in which no two are level
    pub number_total : (i j : ℕ) → Level (number_less A B p fa fb) i j → i ≡ j
    number_total i j l = tied_total (line_less A B p fa fb) line_ordered i j (rw number_tied at l.0, rw number_tied at l.1)

    -- the one or the other is less
    pub number_less_lem : (i j : ℕ) → AtMost (number_less A B p fa fb) i j → (i ≡ j → ⊥) → T (number_less A B p fa fb i j)
    number_less_lem i j h n = elim (yes_or_no (number_less A B p fa fb i j)) [ inl k ↦ k | inr k ↦ absurd (n (number_total i j (h, k))) ]

    -- ---- the four in order
    pub order_rising : Rising (number_less A B p fa fb) (order_at A B p fa fb)
    unfolding order_at
    order_rising = levels_rising (number_less A B p fa fb) number_ordered side_numbers (tt, (tt, (tt, (tt, tt))))

    pub order_members : HasSides (order_at A B p fa fb)
    unfolding order_at
    order_members = all_map (λ k h. any_map (λ y l. number_total k y l) (order_at A B p fa fb) h) side_numbers (levels_cover (number_less A B p fa fb) number_ordered side_numbers (tt, (tt, (tt, (tt, tt)))))

    pub order_below : All (λ (y : ℕ). y < 4) (order_at A B p fa fb)
    unfolding order_at
    order_below = levels_all (number_less A B p fa fb) (λ (y : ℕ). y < 4) side_numbers (omega arith, (omega arith, (omega arith, (omega arith, tt))))

    -- an element is the first of its level
    member_first : (xs : List ℕ) (y : ℕ) → Member y xs → FirstOfLevel (number_less A B p fa fb) xs y
    member_first [] y m = m
    member_first (x ∷ xs) y (inl e) = inl e
    member_first (x ∷ xs) y (inr m) =
        let k = member_first xs y m in
        elim (yes_or_no (eqb y x)) [
          | inl e ↦ inl (eqb→eq y x e)
          | inr n ↦ inr ((λ l. T_not (eqb y x) n (subst (λ (z : ℕ). T (eqb y z)) (number_total y x l) (eqb_refl y))), k)
        ]

    -- a rising list of them is that order
    pub order_unique : (ys : List ℕ) → Rising (number_less A B p fa fb) ys → HasSides ys → All (λ (y : ℕ). y < 4) ys → ys ≡ order_at A B p fa fb
    unfolding order_at
    order_unique ys r m b =
        sym ((levels_exact (number_less A B p fa fb) (λ (i : ℕ). Unit {0}) number_ordered side_numbers ys (tt, (tt, (tt, (tt, tt))))).1 (record {
          rising = r;
          covers = all_map (λ k h. any_map (λ y e. level k y e) ys h) side_numbers m;
          firsts = all_map (λ y h. member_first side_numbers y (below_four y h)) ys b;
        }))
      where
        level : (k y : ℕ) → k ≡ y → Level (number_less A B p fa fb) k y
        level k y e = subst (Level (number_less A B p fa fb) k) e (level_refl (number_less A B p fa fb) number_ordered k)
