-- At most 15 parts. A column outside the common range has at most one part, one inside it at most three. Inside it there are at most four columns, or,
-- where each bottom crosses the other's top, five, of which the first and the last have two: 1 + (2 + 3 + 3 + 3 + 2) + 1.
use mathlib.Core.Path.{◌≡◌, refl, ap, ap₂}
use mathlib.Core.Bool.{Bool, true, false, not, cond, ◌&&◌, ◌||◌}
use mathlib.Core.List.{List, ◌∷◌}
use mathlib.Core.Logic.{◌⊎◌, inl, inr}
use Prim.Native.Nat.{ℕ, ◌+◌, ◌≤◌, pred, zero-le}
use native.Mathlib.Nat.{le_refl}
use native.Mathlib.Omega.{arith}
use lib.Dec.{T, T_not, not_T}
use lib.ListN.{length}
use mir.Facts.{and_yes, yes_and, and_no, or_yes}
use Rattle.lists.specs.Lists.{All, Any}
use Rattle.lists.specs.Tests.{keep, total}
use Rattle.lists.proofs.Tests.{false_is, is_true, yes_or_no, cond_cases, same_test, or_left, or_right}
use Rattle.lists.proofs.Lists.{any_with}
use Rattle.lists.proofs.Neighbours.{neighbours_map, neighbours_of}
use Rattle.lists.proofs.Counts.{keep_total}
use Rattle.integer.specs.Fraction.{Fraction, Proper, before}
use Rattle.integer.proofs.Fraction.{at_most_refl, before→at_most, at_most_before_trans, before_at_most_trans}
use Rattle.levels.specs.Levels.{Level, levels}
use Rattle.levels.proofs.Order.{level_trans}
use Rattle.levels.proofs.Laws.{levels_all, levels_length, levels_cover}
use Rattle.geometry.specs.declared.Base.{Base}
use Rattle.geometry.specs.declared.Trapezoid.{Trapezoid}
use Rattle.geometry.specs.Positions.{position}
use Rattle.geometry.specs.Fitness.{FitFor}
use Rattle.geometry.specs.Ranges.{common_left, crossing}
use Rattle.geometry.proofs.Fitness.{left_proper, right_proper}
use Rattle.geometry.proofs.Ranges.{righter_first, righter_second, common_left_proper}
use Rattle.sweep.specs.Segments.{Segment, spans}
use Rattle.sweep.specs.Columns.{lower}
use Rattle.sweep.specs.Sweep.{earlier, sweep}
use Rattle.sweep.proofs.Sweep.{Placed, placed_order}
use Rattle.overlay.specs.Overlaps.{crosses_in_common, overlap_right}
use Rattle.overlay.specs.Overlay.{Part, in_range, sides, side_crossings, overlay_events, segment_line, stack, parts, subdivision}
use Rattle.overlay.specs.Statements.{AtMostFifteen}
use Rattle.overlay.proofs.Ranges.{crossing_proper}
use Rattle.overlay.proofs.Events.{dividers, groups, complete}
use Rattle.overlay.proofs.Stack.{parts_stack, stack_length}
use Rattle.overlay.proofs.Count.{overlay_cases}
use Rattle.overlay.proofs.Sums.{levels_step, levels_total, levels_same, columns_length}
use Rattle.overlay.proofs.Opposite.{apart_left, apart_after}
use Rattle.overlay.proofs.Two.{two_parts}

-- how many parts a column may have: whether A and B are known to be apart there, and whether it is in the range of A and of B
abbrev cost : Bool → Bool → Bool → ℕ
cost true true true = 2
cost false true true = 3
cost f true false = 1
cost f false true = 1
cost f false false = 0

cost_three : (f u v : Bool) → cost f u v ≤ 3
cost_three true true true = omega arith
cost_three false true true = le_refl 3
cost_three f true false = omega arith
cost_three f false true = omega arith
cost_three f false false = zero-le

cost_two : (f u v : Bool) → T f → cost f u v ≤ 2
cost_two true true true h = le_refl 2
cost_two false true true h = absurd h
cost_two f true false h = omega arith
cost_two f false true h = omega arith
cost_two f false false h = zero-le

-- outside one range, and outside both
cost_one : (f u v : Bool) → T (not u) ⊎ T (not v) → cost f u v ≤ 1
cost_one true true true (inl h) = absurd h
cost_one true true true (inr h) = absurd h
cost_one false true true (inl h) = absurd h
cost_one false true true (inr h) = absurd h
cost_one f true false h = le_refl 1
cost_one f false true h = le_refl 1
cost_one f false false h = zero-le

cost_none : (f u v : Bool) → T (not u) → T (not v) → cost f u v ≤ 0
cost_none true true true h k = absurd h
cost_none false true true h k = absurd h
cost_none f true false h k = absurd h
cost_none f false true h k = absurd k
cost_none f false false h k = zero-le

-- ---- level positions are on the same side of a third
module _ (x y k : Fraction) (hx : Proper x) (hy : Proper y) (hk : Proper k) (l : T (not (before y x))) (g : T (not (before x y))) where
  same_before : before x k ≡ before y k
  same_before = same_test (before x k) (before y k) (at_most_before_trans y x k hy hx hk g) (at_most_before_trans x y k hx hy hk l)

  same_after : before k x ≡ before k y
  same_after = same_test (before k x) (before k y) (λ h. before_at_most_trans k x y hk hx hy h l) (λ h. before_at_most_trans k y x hk hy hx h g)

module _ {L : ℕ} {A B : Trapezoid} (ha : FitFor L A) (hb : FitFor L B) where
  abbrev in_a : Base → Bool
  in_a p = in_range (position p) A

  abbrev in_b : Base → Bool
  in_b p = in_range (position p) B

  -- ---- a column has fewer parts than sides that divide it
  dividers_length : (p : Base) → pred (length (dividers A B p)) ≤ cost false (in_a p) (in_b p)
  unfolding keep sides spans
  dividers_length p = go (in_a p) (in_b p) refl refl
    where
      go : (u v : Bool) → in_a p ≡ u → in_b p ≡ v → pred (length (dividers A B p)) ≤ cost false (in_a p) (in_b p)
      go true true e d = rw (e, d) (le_refl 3)
      go true false e d = rw (e, d) (le_refl 1)
      go false true e d = rw (e, d) (le_refl 1)
      go false false e d = rw (e, d) (le_refl 0)

  sides_bound : (p q : Base) → length (parts A B p q (dividers A B p)) ≤ cost false (in_a p) (in_b p)
  sides_bound p q =
      let e : length (parts A B p q (dividers A B p)) ≡ length (stack A B p q (groups A B p)) = ap length (parts_stack A B p q (dividers A B p)) in
      let i = stack_length A B p q (groups A B p) in
      let j = levels_length (lower segment_line (position p)) (dividers A B p) in
      let k = dividers_length p in
      omega arith

  -- ---- where A and B are apart
  abbrev first : Base
  first = crossing A.bottom B.top

  abbrev second : Base
  second = crossing A.top B.bottom

  -- each bottom crosses the other's top
  abbrev crossed : Bool
  crossed = crosses_in_common A B first && crosses_in_common A B second

  -- x is before neither of the two crossings
  abbrev later : Fraction → Bool
  later x = not (before x (position first)) && not (before x (position second))

  -- A and B are apart right of x: x is not after the left end of the common range, or not before those crossings
  abbrev apart_at : Fraction → Bool
  apart_at x = crossed && (not (before (common_left A B) x) || later x)

  apart_at_lem : (x : Fraction) → Proper x → T (apart_at x) → T (not (overlap_right A B x))
  apart_at_lem x hx h =
      let a = and_yes crossed (not (before (common_left A B) x) || later x) h in
      let c = and_yes (crosses_in_common A B first) (crosses_in_common A B second) a.0 in
      elim (or_yes (not (before (common_left A B) x)) (later x) a.1) [
        | inl b ↦ apart_left ha hb c.0 c.1 x b hx
        | inr b ↦ (let d = and_yes (not (before x (position first))) (not (before x (position second))) b in apart_after ha hb c.0 c.1 x d.0 d.1)
      ]

  -- what the column from the event p on may have
  c : Base → ℕ
  c p = cost (apart_at (position p)) (in_a p) (in_b p)

  column_bound : (p q : Base) → Placed position p → length (parts A B p q (dividers A B p)) ≤ c p
  unfolding c
  column_bound p q hp = go (apart_at (position p)) (in_a p) (in_b p) refl refl refl (sides_bound p q)
    where
      go : (f u v : Bool) → apart_at (position p) ≡ f → in_a p ≡ u → in_b p ≡ v → length (parts A B p q (dividers A B p)) ≤ cost false u v → length (parts A B p q (dividers A B p)) ≤ cost f u v
      go true true true e d i h = two_parts ha hb p q hp (is_true d) (is_true i) (apart_at_lem (position p) hp (is_true e))
      go false true true e d i h = h
      go f true false e d i h = h
      go f false true e d i h = h
      go f false false e d i h = h

  events_proper : All (Placed position) (overlay_events A B)
  events_proper = (complete ha hb).proper

  -- the parts are at most what the columns may have
  bound : length (subdivision A B) ≤ total c (levels (earlier position) (overlay_events A B))
  unfolding subdivision sweep
  bound =
      let ss = levels (earlier position) (overlay_events A B) in
      let proper = neighbours_of (Placed position) ss (levels_all (earlier position) (Placed position) (overlay_events A B) events_proper) in
      columns_length (λ (s : Segment). s) position (parts A B) c (sides A B) ss (neighbours_map (λ p q h. column_bound p q h.0) ss proper)

  -- ---- level events cost the same
  same_range : {t : Trapezoid} → FitFor L t → (x y : Fraction) → Proper x → Proper y → T (not (before y x)) → T (not (before x y)) → in_range x t ≡ in_range y t
  unfolding spans
  same_range {t} h x y hx hy l g = ap₂ (λ (u v : Bool). not u && v) (same_before x y (position t.left) hx hy (left_proper h) l g) (same_before x y (position t.right) hx hy (right_proper h) l g)

  same_apart : (x y : Fraction) → Proper x → Proper y → T (not (before y x)) → T (not (before x y)) → apart_at x ≡ apart_at y
  same_apart x y hx hy l g = elim (yes_or_no crossed) [ inl h ↦ inside (and_yes (crosses_in_common A B first) (crosses_in_common A B second) h) | inr h ↦ (let e : crossed ≡ false = false_is h in rw e) ]
    where
      inside : T (crosses_in_common A B first) × T (crosses_in_common A B second) → apart_at x ≡ apart_at y
      inside h =
          let e = same_after x y (common_left A B) hx hy (common_left_proper ha hb) l g in
          let f = same_before x y (position first) hx hy (crossing_proper A B first h.0) l g in
          let k = same_before x y (position second) hx hy (crossing_proper A B second h.1) l g in
          rw (e, f, k)

  c_same : (x y : Base) → Placed position x → Placed position y → Level (earlier position) x y → c x ≡ c y
  unfolding c
  c_same x y hx hy l =
      let e = same_apart (position x) (position y) hx hy l.0 l.1 in
      let f = same_range ha (position x) (position y) hx hy l.0 l.1 in
      let k = same_range hb (position x) (position y) hx hy l.0 l.1 in
      λ i. cost (e i) (f i) (k i)

  -- ---- outside a range
  before_range : (x : Fraction) (t : Trapezoid) → T (before x (position t.left)) → T (not (in_range x t))
  unfolding spans
  before_range x t h = not_T (in_range x t) (λ k. T_not (before x (position t.left)) (and_yes (not (before x (position t.left))) (before x (position t.right)) k).0 h)

  after_range : (x : Fraction) (t : Trapezoid) → T (not (before x (position t.right))) → T (not (in_range x t))
  unfolding spans
  after_range x t h = not_T (in_range x t) (λ k. T_not (before x (position t.right)) h (and_yes (not (before x (position t.left))) (before x (position t.right)) k).1)

  -- ---- the right bases: at one of them begins a column of one part, at the other none
  rights : c A.right + c B.right ≤ 1
  unfolding c
  rights =
      let a = position A.right in
      let b = position B.right in
      elim (yes_or_no (before a b)) [
        | inl h ↦ (
            let i = cost_one (apart_at a) (in_range a A) (in_range a B) (inl (after_range a A (at_most_refl a))) in
            let j = cost_none (apart_at b) (in_range b A) (in_range b B) (after_range b A (before→at_most a b h)) (after_range b B (at_most_refl b)) in
            omega arith
            )
        | inr h ↦ (
            let i = cost_none (apart_at a) (in_range a A) (in_range a B) (after_range a A (at_most_refl a)) (after_range a B h) in
            let j = cost_one (apart_at b) (in_range b A) (in_range b B) (inr (after_range b B (at_most_refl b))) in
            omega arith
            )
      ]

  -- ---- the left bases: at one of them begins a column of one part, at the other the first column of the common range
  abbrev edge : ℕ
  edge = cond crossed 2 3

  left_edge : (k : Base) → T (not (before (common_left A B) (position k))) → c k ≤ edge
  unfolding c
  left_edge k h =
      let x = position k in
      cond_cases (λ (n : ℕ). c k ≤ n) crossed 2 3
      (λ y. cost_two (apart_at x) (in_a k) (in_b k) (yes_and crossed (not (before (common_left A B) x) || later x) y (or_left (not (before (common_left A B) x)) (later x) h)))
      (λ n. cost_three (apart_at x) (in_a k) (in_b k))

  abbrev inner : List Base
  inner = keep (crosses_in_common A B) (side_crossings A B)

  lefts : total c (levels (earlier position) (overlay_events A B)) ≤ edge + 2 + total c inner
  unfolding overlay_events
  lefts =
      elim (yes_or_no (before a b)) [
        | inl h ↦ (
            let i = levels_step c (earlier position) A.left rest in
            let j = one A.left (inr (before_range a B h)) in
            let k = left_edge B.left at_b in
            omega (arith, rest_total, rights)
            )
        | inr h ↦ elim (yes_or_no (before b a)) [
          | inl g ↦ (
              let i = levels_step c (earlier position) A.left rest in
              let j = one B.left (inl (before_range b A g)) in
              let k = left_edge A.left at_a in
              omega (arith, rest_total, rights)
              )
          | inr g ↦ (
              let i = levels_same c (earlier position) (placed_order position) c_same A.left rest (left_proper ha) rest_proper (found h g) in
              let k = left_edge B.left at_b in
              omega (arith, rest_total, rights)
              )
        ]
      ]
    where
      a : Fraction
      a = position A.left

      b : Fraction
      b = position B.left

      at_a : T (not (before (common_left A B) (position A.left)))
      at_a = unfold common_left in righter_first a b

      at_b : T (not (before (common_left A B) (position B.left)))
      at_b = unfold common_left in righter_second a b

      rest : List Base
      rest = A.right ∷ B.left ∷ B.right ∷ inner

      rest_proper : All (Placed position) rest
      rest_proper = events_proper.1

      rest_total : total c (levels (earlier position) rest) ≤ c A.right + (c B.left + (c B.right + total c inner))
      rest_total = levels_total c (earlier position) rest

      one : (k : Base) → T (not (in_a k)) ⊎ T (not (in_b k)) → c k ≤ 1
      one k h = unfold c in cost_one (apart_at (position k)) (in_a k) (in_b k) h

      -- level with the other left base
      found : T (not (before a b)) → T (not (before b a)) → Any (Level (earlier position) A.left) (levels (earlier position) rest)
      found h g =
          any_with (λ s hs l. level_trans (earlier position) (placed_order position) A.left B.left s (left_proper ha) (left_proper hb) hs (g, h) l) (levels (earlier position) rest)
          (levels_all (earlier position) (Placed position) rest rest_proper) (levels_cover (earlier position) (placed_order position) rest rest_proper).1.0

  -- ---- the crossings: three each, but two at the later of those of a bottom with the other's top, or one of those is none
  abbrev paid : Base → ℕ
  paid k = cond (crosses_in_common A B k) (c k) 0

  paid_at_most : (k : Base) (n : ℕ) → c k ≤ n → paid k ≤ n
  paid_at_most k n h = cond_cases (λ (m : ℕ). m ≤ n) (crosses_in_common A B k) (c k) 0 (λ t. h) (λ t. zero-le)

  paid_three : (k : Base) → paid k ≤ 3
  paid_three k = paid_at_most k 3 (unfold c in cost_three (apart_at (position k)) (in_a k) (in_b k))

  paid_none : (k : Base) → T (not (crosses_in_common A B k)) → paid k ≤ 0
  paid_none k h = let e : crosses_in_common A B k ≡ false = false_is h in rw e zero-le

  paid_two : (k : Base) → T crossed → T (later (position k)) → paid k ≤ 2
  paid_two k y h =
      let x = position k in
      paid_at_most k 2 (unfold c in cost_two (apart_at x) (in_a k) (in_b k) (yes_and crossed (not (before (common_left A B) x) || later x) y (or_right (not (before (common_left A B) x)) (later x) h)))

  opposite_total : paid first + paid second ≤ cond crossed 5 3
  opposite_total = cond_cases (λ (n : ℕ). paid first + paid second ≤ n) crossed 5 3 both missing
    where
      r : Fraction
      r = position first

      s : Fraction
      s = position second

      both : T crossed → paid first + paid second ≤ 5
      both y =
          elim (yes_or_no (before r s)) [
            | inl h ↦ (let i = paid_three first in let j = paid_two second y (yes_and (not (before s r)) (not (before s s)) (before→at_most r s h) (at_most_refl s)) in omega arith)
            | inr h ↦ (let i = paid_two first y (yes_and (not (before r r)) (not (before r s)) (at_most_refl r) h) in let j = paid_three second in omega arith)
          ]

      missing : T (not crossed) → paid first + paid second ≤ 3
      missing n =
          elim (and_no (crosses_in_common A B first) (crosses_in_common A B second) n) [
            | inl h ↦ (let i = paid_none first h in let j = paid_three second in omega arith)
            | inr h ↦ (let i = paid_three first in let j = paid_none second h in omega arith)
          ]

  inner_total : total c inner ≤ cond crossed 5 3 + 6
  unfolding side_crossings
  inner_total =
      let i = opposite_total in
      let j = paid_three (crossing A.bottom B.bottom) in
      let k = paid_three (crossing A.top B.top) in
      rw (keep_total c (crosses_in_common A B) (side_crossings A B)) (omega arith)

  pub subdivision_length : length (subdivision A B) ≤ 15
  subdivision_length = go crossed (length (subdivision A B)) (total c (levels (earlier position) (overlay_events A B))) (total c inner) bound lefts inner_total
    where
      go : (b : Bool) (i j k : ℕ) → i ≤ j → j ≤ cond b 2 3 + 2 + k → k ≤ cond b 5 3 + 6 → i ≤ 15
      go true i j k h l m = omega arith
      go false i j k h l m = omega arith

pub at_most_fifteen : AtMostFifteen
at_most_fifteen L A B ha hb = overlay_cases ha hb (λ (ss : List Part). length ss ≤ 15) (subdivision_length ha hb) (λ n. omega arith)
