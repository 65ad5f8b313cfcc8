-- The comparison of bases says what it means, and what it says of positions with positive denominators.
use mathlib.Core.Path.{◌≡◌, refl, sym, ◌∙◌, ap, ap₂, subst}
use mathlib.Core.Bool.{Bool, true, false, not}
use mathlib.Core.Logic.{◌⊎◌, inl, inr, ◌↔◌}
use lib.Dec.{T}
use lib.IntN.{ℤ, pos}
use lib.Signed.{lt_z, ◌≤ℤ◌, ◌<ℤ◌, clash_ℤ}
use Rattle.std.specs.declared.cmp.Ordering.{Ordering}
use Rattle.std.specs.declared.cmp.Ordering.TheVariants.{Less, Equal, Greater}
use Rattle.integer.specs.Integer.{◌⊗◌}
use Rattle.integer.specs.Compare.{HasOrder, order_by, order_of}
use Rattle.integer.specs.Fraction.{Fraction, Proper, before, order, root}
use Rattle.integer.proofs.Ring.{ring, ◌⊟◌, ◌⊠◌, minus, ◌≗◌, sub_zero}
use Rattle.integer.proofs.Order.{antisymm, lt_or_le, lt→le}
use Rattle.integer.proofs.Linear.{zarith, difference, neg_zero, neg_ge}
use Rattle.integer.proofs.Fraction.{cross, cross_turn, cross→at_most, at_most→cross, at_most_before_trans, before_at_most_trans, at_most_trans, root_rising, root_falling, order_less, order_equal, order_greater}
use Rattle.integer.proofs.Tests.{yes_lt, no_lt, order_by_lem, order_exact}
use Rattle.geometry.specs.declared.Line.{Line}
use Rattle.geometry.specs.declared.Base.{Base}
use Rattle.geometry.specs.declared.Horizontal.{Horizontal}
use Rattle.geometry.specs.declared.Horizontal.TheVariants.{Left, Level, Right}
use Rattle.geometry.specs.Lines.{det, numer}
use Rattle.geometry.specs.Positions.{crosses, ratio, meet, position, is_less}
use Rattle.geometry.specs.Standing.{across, one_sign, horizontal, base_ratio, standing, is_left, NotZero, LessThan, HasHorizontal, MeetAt, LeftOf, LevelWith, HorizontalExact, base_crosses, StandingExact}
use Rattle.geometry.proofs.Meet.{crosses→det, meet_proper, meet-gap, meet-only, meet_rising, meet_falling}

-- ---- the four combinations of signs
abbrev Signs : ℤ → ℤ → Type 0
Signs d e = ((pos 0 <ℤ d) × (pos 0 <ℤ e)) ⊎ (((d <ℤ pos 0) × (e <ℤ pos 0)) ⊎ (((d <ℤ pos 0) × (pos 0 <ℤ e)) ⊎ ((pos 0 <ℤ d) × (e <ℤ pos 0))))

-- a number that is not 0
negative_by : {d : ℤ} → NotZero d → d ≤ℤ pos 0 → d <ℤ pos 0
negative_by {d} h k = elim (lt_or_le d (pos 0)) [ inl j ↦ j | inr j ↦ absurd (h (antisymm k j)) ]

either_sign : (d : ℤ) → NotZero d → (pos 0 <ℤ d) ⊎ (d <ℤ pos 0)
either_sign d h = elim (lt_or_le (pos 0) d) [ inl k ↦ inl k | inr k ↦ inr (negative_by h k) ]

pub positive_not_zero : {d : ℤ} → pos 0 <ℤ d → NotZero d
positive_not_zero h e = omega (zarith, e)

signs : (d e : ℤ) → NotZero d → NotZero e → Signs d e
signs d e hd he =
    elim (either_sign d hd) [
      | inl a ↦ elim (either_sign e he) [ inl b ↦ inl (a, b) | inr b ↦ inr (inr (inr (a, b))) ]
      | inr a ↦ elim (either_sign e he) [ inl b ↦ inr (inr (inl (a, b))) | inr b ↦ inr (inl (a, b)) ]
    ]

-- never both
one_sign-only : {d : ℤ} → pos 0 <ℤ d → d <ℤ pos 0 → ⊥
one_sign-only h k = clash_ℤ h (lt→le k)

-- ---- the reply by the order of the products, or of the products exchanged
module _ (p q : Fraction) where
  pub agree_positive : pos 0 <ℤ p.den → pos 0 <ℤ q.den → horizontal p q ≡ across (order p q)
  unfolding horizontal one_sign
  agree_positive h k = rw (no_lt (lt→le h), no_lt (lt→le k))

  agree_negative : p.den <ℤ pos 0 → q.den <ℤ pos 0 → horizontal p q ≡ across (order p q)
  unfolding horizontal one_sign
  agree_negative h k = rw (yes_lt h, yes_lt k)

  differ_first : p.den <ℤ pos 0 → pos 0 <ℤ q.den → horizontal p q ≡ across (order q p)
  unfolding horizontal one_sign
  differ_first h k = rw (yes_lt h, no_lt (lt→le k))

  differ_second : pos 0 <ℤ p.den → q.den <ℤ pos 0 → horizontal p q ≡ across (order q p)
  unfolding horizontal one_sign
  differ_second h k = rw (no_lt (lt→le h), yes_lt k)

-- the order of which `across` makes a reply
abbrev ordered : Horizontal → Ordering
ordered Left = Less
ordered Level = Equal
ordered Right = Greater

across_exact : (o : Ordering) (h : Horizontal) → (across o ≡ h) ↔ (o ≡ ordered h)
across_exact o h = ((λ e. sym (back o) ∙ ap ordered e), (λ e. ap across e ∙ forth h))
  where
    back : (o : Ordering) → ordered (across o) ≡ o
    back Less = refl
    back Equal = refl
    back Greater = refl

    forth : (h : Horizontal) → across (ordered h) ≡ h
    forth Left = refl
    forth Level = refl
    forth Right = refl

reply : (r h : Horizontal) (a b : ℤ) → r ≡ across (order_of a b) → (r ≡ h) ↔ HasOrder (ordered h) a b
reply r h a b e =
    ((λ f. (order_exact (ordered h) a b).0 ((across_exact (order_of a b) h).0 (sym e ∙ f))), (λ f. e ∙ (across_exact (order_of a b) h).1 ((order_exact (ordered h) a b).1 f)))

-- ---- the meaning over whole numbers
module _ (p q : Fraction) where
  less_positive : pos 0 <ℤ p.den → pos 0 <ℤ q.den → LessThan p q ↔ (p.num ⊗ q.den <ℤ q.num ⊗ p.den)
  less_positive h k = (
    (λ l. l.both_positive h k),
    (λ l. record {
      both_positive = λ _ _. l;
      both_negative = λ n _. absurd (one_sign-only h n);
      first_negative = λ n _. absurd (one_sign-only h n);
      second_negative = λ _ n. absurd (one_sign-only k n);
    }),
  )

  less_negative : p.den <ℤ pos 0 → q.den <ℤ pos 0 → LessThan p q ↔ (p.num ⊗ q.den <ℤ q.num ⊗ p.den)
  less_negative h k = (
    (λ l. l.both_negative h k),
    (λ l. record {
      both_positive = λ n _. absurd (one_sign-only n h);
      both_negative = λ _ _. l;
      first_negative = λ _ n. absurd (one_sign-only n k);
      second_negative = λ n _. absurd (one_sign-only n h);
    }),
  )

  less_first : p.den <ℤ pos 0 → pos 0 <ℤ q.den → LessThan p q ↔ (q.num ⊗ p.den <ℤ p.num ⊗ q.den)
  less_first h k = (
    (λ l. l.first_negative h k),
    (λ l. record {
      both_positive = λ n _. absurd (one_sign-only n h);
      both_negative = λ _ n. absurd (one_sign-only k n);
      first_negative = λ _ _. l;
      second_negative = λ n _. absurd (one_sign-only n h);
    }),
  )

  less_second : pos 0 <ℤ p.den → q.den <ℤ pos 0 → LessThan p q ↔ (q.num ⊗ p.den <ℤ p.num ⊗ q.den)
  less_second h k = (
    (λ l. l.second_negative h k),
    (λ l. record {
      both_positive = λ _ n. absurd (one_sign-only n k);
      both_negative = λ n _. absurd (one_sign-only h n);
      first_negative = λ n _. absurd (one_sign-only h n);
      second_negative = λ _ _. l;
    }),
  )

  -- the reply by the order of a and b, which are the two products in this order or the other
  by_order : (h : Horizontal) (a b : ℤ) → horizontal p q ≡ across (order_of a b) → LessThan p q ↔ (a <ℤ b) → LessThan q p ↔ (b <ℤ a)
      → (a ≡ b) ↔ (p.num ⊗ q.den ≡ q.num ⊗ p.den) → (horizontal p q ≡ h) ↔ HasHorizontal h p q
  by_order Left a b e l r s = let k = reply (horizontal p q) Left a b e in ((λ f. l.1 (k.0 f)), (λ f. k.1 (l.0 f)))
  by_order Level a b e l r s = let k = reply (horizontal p q) Level a b e in ((λ f. s.0 (k.0 f)), (λ f. k.1 (s.1 f)))
  by_order Right a b e l r s = let k = reply (horizontal p q) Right a b e in ((λ f. r.1 (k.0 f)), (λ f. k.1 (r.0 f)))

same : (a b : ℤ) → (a ≡ b) ↔ (a ≡ b)
same a b = ((λ e. e), (λ e. e))

turned : (a b : ℤ) → (b ≡ a) ↔ (a ≡ b)
turned a b = ((λ e. sym e), (λ e. sym e))

pub horizontal_exact : HorizontalExact
unfolding order
horizontal_exact h p q hp hq =
    let a = p.num ⊗ q.den in
    let b = q.num ⊗ p.den in
    elim (signs p.den q.den hp hq) [
      | inl k ↦ by_order p q h a b (agree_positive p q k.0 k.1) (less_positive p q k.0 k.1) (less_positive q p k.1 k.0) (same a b)
      | inr (inl k) ↦ by_order p q h a b (agree_negative p q k.0 k.1) (less_negative p q k.0 k.1) (less_negative q p k.1 k.0) (same a b)
      | inr (inr (inl k)) ↦ by_order p q h b a (differ_first p q k.0 k.1) (less_first p q k.0 k.1) (less_second q p k.1 k.0) (turned a b)
      | inr (inr (inr k)) ↦ by_order p q h b a (differ_second p q k.0 k.1) (less_second p q k.0 k.1) (less_first q p k.1 k.0) (turned a b)
    ]

-- ---- with denominators made positive
pub horizontal-root : (p q : Fraction) → NotZero p.den → NotZero q.den → horizontal p q ≡ across (order (root p.den p.num) (root q.den q.num))
unfolding order
horizontal-root p q hp hq =
    elim (signs p.den q.den hp hq) [
      | inl k ↦ agree_positive p q k.0 k.1 ∙ rw (root_rising p.den p.num k.0, root_rising q.den q.num k.1)
      | inr (inl k) ↦ agree_negative p q k.0 k.1 ∙ rw (root_falling p.den p.num k.0, root_falling q.den q.num k.1) (ap across (order_by_lem _ _ _ _ (ring 4 (λ n d m e. n ⊠ e ⊟ m ⊠ d ≗ minus n ⊠ minus e ⊟ minus m ⊠ minus d) tt p.num p.den q.num q.den)))
      | inr (inr (inl k)) ↦ differ_first p q k.0 k.1 ∙ rw (root_falling p.den p.num k.0, root_rising q.den q.num k.1) (ap across (order_by_lem _ _ _ _ (ring 4 (λ n d m e. m ⊠ d ⊟ n ⊠ e ≗ minus n ⊠ e ⊟ m ⊠ minus d) tt p.num p.den q.num q.den)))
      | inr (inr (inr k)) ↦ differ_second p q k.0 k.1 ∙ rw (root_rising p.den p.num k.0, root_falling q.den q.num k.1) (ap across (order_by_lem _ _ _ _ (ring 4 (λ n d m e. m ⊠ d ⊟ n ⊠ e ≗ n ⊠ minus e ⊟ minus m ⊠ d) tt p.num p.den q.num q.den)))
    ]

left_less : (o : Ordering) → is_left (across o) ≡ is_less o
left_less Less = refl
left_less Equal = refl
left_less Greater = refl

less_before : (p q : Fraction) → is_less (order p q) ≡ before p q
unfolding order before order_of
less_before p q = go (lt_z (p.num ⊗ q.den) (q.num ⊗ p.den)) (lt_z (q.num ⊗ p.den) (p.num ⊗ q.den))
  where
    go : (s t : Bool) → is_less (order_by s t) ≡ s
    go true t = refl
    go false true = refl
    go false false = refl

pub left_exact : (h : Horizontal) → T (is_left h) ↔ (h ≡ Left)
left_exact Left = ((λ _. refl), (λ _. tt))
left_exact Level = ((λ k. absurd k), (λ e. subst (λ (h : Horizontal). T (is_left h)) (sym e) tt))
left_exact Right = ((λ k. absurd k), (λ e. subst (λ (h : Horizontal). T (is_left h)) (sym e) tt))

-- Left is "before", of fractions with positive denominators, and of others made so
pub left_before : (p q : Fraction) → Proper p → Proper q → is_left (horizontal p q) ≡ before p q
left_before p q hp hq = ap is_left (agree_positive p q hp hq) ∙ left_less (order p q) ∙ less_before p q

pub left_root : (p q : Fraction) → NotZero p.den → NotZero q.den → is_left (horizontal p q) ≡ before (root p.den p.num) (root q.den q.num)
left_root p q hp hq =
    ap is_left (horizontal-root p q hp hq) ∙ left_less (order (root p.den p.num) (root q.den q.num)) ∙ less_before (root p.den p.num) (root q.den q.num)

-- ---- bases
pub meet-root : (l m : Line) → T (crosses l m) → meet l m ≡ root (det l m) (numer l m)
meet-root l m h =
    elim (either_sign (det l m) (crosses→det l m h)) [
      | inl k ↦ meet_rising l m k ∙ sym (root_rising (det l m) (numer l m) k)
      | inr k ↦ meet_falling l m k ∙ sym (root_falling (det l m) (numer l m) k)
    ]

-- two positions where a base's lines meet are one
level : (x y : Fraction) → cross x y ≡ pos 0 → T (not (before y x)) × T (not (before x y))
level x y e = (cross→at_most x y (omega (zarith, e)), cross→at_most y x (omega (zarith, neg_zero (cross_turn x y) e)))

module _ (b c : Base) (hb : T (base_crosses b)) (hc : T (base_crosses c)) where
  hp : Proper (position b)
  hp = meet_proper b.first b.second hb

  hq : Proper (position c)
  hq = meet_proper c.first c.second hc

  at_first : MeetAt b (position b)
  at_first = (hp, meet-gap b.first b.second)

  at_second : MeetAt c (position c)
  at_second = (hq, meet-gap c.first c.second)

  standing_order : standing b c ≡ across (order (position b) (position c))
  unfolding ratio
  standing_order =
      horizontal-root (base_ratio b) (base_ratio c) (crosses→det b.first b.second hb) (crosses→det c.first c.second hc)
      ∙ ap across (ap₂ order (sym (meet-root b.first b.second hb)) (sym (meet-root c.first c.second hc)))

  pub standing_position : standing b c ≡ horizontal (position b) (position c)
  standing_position = standing_order ∙ sym (agree_positive (position b) (position c) hp hq)

  -- left of each other by the positions of the bases, and by every position where their lines meet
  pub left_of_exact : T (before (position b) (position c)) ↔ LeftOf b c
  left_of_exact = (
    (λ h x y hx hy.
        at_most_before_trans x (position b) y hx.0 hp hy.0 (level x (position b) (meet-only b.first b.second x hx.1)).0
        (before_at_most_trans (position b) (position c) y hp hq hy.0 h (level y (position c) (meet-only c.first c.second y hy.1)).1)),
    (λ f. f (position b) (position c) at_first at_second),
  )

  -- and level
  level_exact : (cross (position b) (position c) ≡ pos 0) ↔ LevelWith b c
  unfolding cross
  level_exact = (
    (λ h x y hx hy.
        let f = level x (position b) (meet-only b.first b.second x hx.1) in
        let g = level y (position c) (meet-only c.first c.second y hy.1) in
        let k = level (position b) (position c) h in
        let u = at_most_trans x (position b) y hx.0 hp hy.0 f.0 (at_most_trans (position b) (position c) y hp hq hy.0 k.0 g.1) in
        let v = at_most_trans y (position b) x hy.0 hp hx.0 (at_most_trans y (position c) (position b) hy.0 hq hp g.0 k.1) f.1 in
        sub_zero (x.num ⊗ y.den) (y.num ⊗ x.den) (antisymm (at_most→cross x y u) (neg_ge (cross_turn y x) (at_most→cross y x v)))),
    (λ f. let e = f (position b) (position c) at_first at_second in omega (zarith, e, difference ((position b).num ⊗ (position c).den) ((position c).num ⊗ (position b).den))),
  )

-- the reply by what the order of the positions means
by_positions : (h : Horizontal) (b c : Base) → T (base_crosses b) → T (base_crosses c) → {X Y : Type 0} → (order (position b) (position c) ≡ ordered h) ↔ X → X ↔ Y → (standing b c ≡ h) ↔ Y
by_positions h b c hb hc l m =
    let e = standing_order b c hb hc in
    let k = across_exact (order (position b) (position c)) h in
    ((λ f. m.0 (l.0 (k.0 (sym e ∙ f)))), (λ f. e ∙ k.1 (l.1 (m.1 f))))

pub standing_exact : StandingExact
standing_exact Left b c hb hc = by_positions Left b c hb hc (order_less (position b) (position c)) (left_of_exact b c hb hc)
standing_exact Level b c hb hc = by_positions Level b c hb hc (order_equal (position b) (position c)) (level_exact b c hb hc)
standing_exact Right b c hb hc = by_positions Right b c hb hc (order_greater (position b) (position c)) (left_of_exact c b hc hb)
