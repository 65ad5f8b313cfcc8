-- The test `touches` says yes exactly if two different rational points lie in both closed trapezoids, and trapezoids that overlap touch.
use mathlib.Core.Path.{◌≡◌}
use mathlib.Core.Bool.{true, false, not, ◌&&◌, ◌||◌}
use mathlib.Core.Logic.{◌⊎◌, inl, inr}
use Prim.Native.Nat.{ℕ}
use lib.Dec.{T, not_T}
use lib.IntN.{ℤ, pos}
use lib.Signed.{le_z, ◌≤ℤ◌, ◌<ℤ◌, le_z_yes, clash_ℤ}
use mir.Facts.{and_yes, yes_and, or_yes}
use Rattle.lists.proofs.Tests.{yes_or_no, true_is, false_is, cond_cases, or_left, or_right}
use Rattle.integer.specs.Integer.{◌⊖◌, ◌⊗◌}
use Rattle.integer.specs.Fraction.{Fraction, Proper, before, mediant}
use Rattle.integer.proofs.Order.{lt→le, antisymm, trichotomy}
use Rattle.integer.proofs.Linear.{zarith, difference, neg_ge, neg_zero}
use Rattle.integer.proofs.Fraction.{cross, cross_turn, at_most→cross, before-total, at_most_refl, at_most_trans, before→at_most, before_trans, before_at_most_trans, at_most_before_trans, mediant_proper, mediant_after, mediant-before}
use Rattle.geometry.specs.declared.Line.{Line}
use Rattle.geometry.specs.declared.Base.{Base}
use Rattle.geometry.specs.declared.Trapezoid.{Trapezoid}
use Rattle.geometry.specs.Lines.{IsLine}
use Rattle.geometry.specs.Positions.{gap, crosses, meet, position, below}
use Rattle.geometry.specs.Points.{Point, at, orientation, under}
use Rattle.geometry.specs.Orders.{Uncrossed}
use Rattle.geometry.specs.Trapezoids.{based, lies_in_closed}
use Rattle.geometry.specs.Fitness.{FitFor}
use Rattle.geometry.specs.Ranges.{crossing, common_left, common_right}
use Rattle.geometry.proofs.Identities.{gap_turn, height_refl}
use Rattle.geometry.proofs.Heights.{height_total, height_trans, lower→below, below→not_below}
use Rattle.geometry.proofs.Between.{stays_closed, order_from}
use Rattle.geometry.proofs.Meet.{meet_proper}
use Rattle.geometry.proofs.Points.{on, on_point, on_other, on_after, on_before, on_from, on_to, between_lines}
use Rattle.geometry.proofs.Fitness.{left_proper, right_proper, left_before_right, bottom_line, top_line}
use Rattle.geometry.proofs.Ranges.{fit_based, common_left_proper, common_right_proper, from_left, to_right, righter_first, righter_second, lefter_first, lefter_second}
use Rattle.overlay.specs.Overlaps.{Common, crosses_in_common}
use Rattle.overlay.proofs.Ranges.{from_lies, from-crossing, to_crossing, crossing_proper}
use Rattle.overlay.proofs.Entering.{enters, enters_turned}
use Rattle.overlay.proofs.Overlaps.{strictly_between}
use Rattle.connectivity.specs.Touching.{Shared, Touch, not_above, touches_right, touches_from, touches_along, lower_at, touches_upright, touches, TouchesExact, CommonTouch}
use Rattle.connectivity.proofs.Lines.{Upto, Under, lower→gap, gap→lower, apart_across, apart_up, beneath, gap_level, upto, under_between, comes_below, keeps}

-- ---- a trapezoid's bottom is at or below its top in its closed range
module _ {L : ℕ} {t : Trapezoid} (h : FitFor L t) where
  sides_closed : (x : Fraction) → Proper x → T (not (before x (position t.left))) → T (not (before (position t.right) x)) → gap t.bottom t.top x ≤ℤ pos 0
  sides_closed x hx u v =
      stays_closed (position t.left) (position t.right) t.bottom t.top (left_proper h) (right_proper h) clear
      (order_from (position t.left) (position t.right) t.bottom t.top (left_proper h) (right_proper h) (left_before_right h) h.sides) x hx u v
    where
      clear : Uncrossed (position t.left) (position t.right) t.bottom t.top
      clear y hy a b e = let k = h.sides y hy a b in absurd (omega (zarith, e))

  -- the point of a line over x lies in the closed trapezoid
  module _ (l : Line) (x : Fraction) (hl : IsLine l) where
    on_closed : T (not (before x (position t.left))) → T (not (before (position t.right) x)) → gap t.bottom l x ≤ℤ pos 0 → gap l t.top x ≤ℤ pos 0 → T (lies_in_closed (on l x) t)
    unfolding lies_in_closed under
    on_closed u v b c =
        let P = on l x in
        let k : pos 0 ≤ℤ gap l t.bottom x = neg_ge (gap_turn t.bottom l x) b in
        yes_and (based t) _ (fit_based h)
        (yes_and (not (before (at P) (position t.left))) _ (on_from l x (position t.left) hl u)
        (yes_and (not (before (position t.right) (at P))) _ (on_to l x (position t.right) hl v)
        (yes_and (le_z (pos 0) (orientation t.bottom P)) (le_z (orientation t.top P) (pos 0)) (rw (on_other l t.bottom x) k.le) (rw (on_other l t.top x) c.le))))

-- where a point of a closed trapezoid stands
pub record Closed (P : Point) (t : Trapezoid) : Type 0 where
  pub from : T (not (before (at P) (position t.left)))
  pub to : T (not (before (position t.right) (at P)))
  pub bottom : pos 0 ≤ℤ orientation t.bottom P
  pub top : orientation t.top P ≤ℤ pos 0

pub from_closed : (P : Point) (t : Trapezoid) → T (lies_in_closed P t) → Closed P t
unfolding lies_in_closed under
from_closed P t h =
    let a = and_yes (based t) (not (before (at P) (position t.left)) && (not (before (position t.right) (at P)) && (le_z (pos 0) (orientation t.bottom P) && le_z (orientation t.top P) (pos 0)))) h in
    let b = and_yes (not (before (at P) (position t.left))) (not (before (position t.right) (at P)) && (le_z (pos 0) (orientation t.bottom P) && le_z (orientation t.top P) (pos 0))) a.1 in
    let c = and_yes (not (before (position t.right) (at P))) (le_z (pos 0) (orientation t.bottom P) && le_z (orientation t.top P) (pos 0)) b.1 in
    let d = and_yes (le_z (pos 0) (orientation t.bottom P)) (le_z (orientation t.top P) (pos 0)) c.1 in
    record { from = b.0; to = c.0; bottom = le_z_yes d.0; top = le_z_yes d.1 }

-- the test at x by its four comparisons. (Over plain variables, so that a test that is another is told apart at once.)
upright_parts : (A B : Trapezoid) (x : Fraction) → T (touches_upright A B x) → T (lower_at x A.bottom B.top) × T (lower_at x B.bottom A.top) × T (lower_at x A.bottom A.top) × T (lower_at x B.bottom B.top)
unfolding touches_upright
upright_parts A B x h =
    let k = and_yes (lower_at x A.bottom B.top && lower_at x B.bottom A.top) (lower_at x A.bottom A.top && lower_at x B.bottom B.top) h in
    let a = and_yes (lower_at x A.bottom B.top) (lower_at x B.bottom A.top) k.0 in
    let b = and_yes (lower_at x A.bottom A.top) (lower_at x B.bottom B.top) k.1 in
    (a.0, a.1, b.0, b.1)

upright_whole : (A B : Trapezoid) (x : Fraction) → T (lower_at x A.bottom B.top) → T (lower_at x B.bottom A.top) → T (lower_at x A.bottom A.top) → T (lower_at x B.bottom B.top) → T (touches_upright A B x)
unfolding touches_upright
upright_whole A B x a b c d =
    yes_and (lower_at x A.bottom B.top && lower_at x B.bottom A.top) (lower_at x A.bottom A.top && lower_at x B.bottom B.top)
    (yes_and (lower_at x A.bottom B.top) (lower_at x B.bottom A.top) a b)
    (yes_and (lower_at x A.bottom A.top) (lower_at x B.bottom B.top) c d)

module _ (L : ℕ) (A B : Trapezoid) (ha : FitFor L A) (hb : FitFor L B) where
  abbrev lo : Fraction
  lo = common_left A B

  abbrev hi : Fraction
  hi = common_right A B

  hlo : Proper lo
  hlo = common_left_proper ha hb

  hhi : Proper hi
  hhi = common_right_proper ha hb

  -- a position at or before the right end of both ranges is at or before that of the common one
  to_closed : (x : Fraction) → T (not (before (position A.right) x)) → T (not (before (position B.right) x)) → T (not (before hi x))
  unfolding common_right
  to_closed x u v = cond_cases (λ (p : Fraction). T (not (before p x))) (before (position A.right) (position B.right)) (position A.right) (position B.right) (λ h. u) (λ h. v)

  -- and back, for both ends
  left_of : (x : Fraction) → Proper x → T (not (before x lo)) → T (not (before x (position A.left))) × T (not (before x (position B.left)))
  unfolding common_left
  left_of x hx h = (
    at_most_trans (position A.left) lo x (left_proper ha) hlo hx (righter_first (position A.left) (position B.left)) h,
    at_most_trans (position B.left) lo x (left_proper hb) hlo hx (righter_second (position A.left) (position B.left)) h,
  )

  right_of : (x : Fraction) → Proper x → T (not (before hi x)) → T (not (before (position A.right) x)) × T (not (before (position B.right) x))
  unfolding common_right
  right_of x hx h = (
    at_most_trans x hi (position A.right) hx hhi (right_proper ha) h (lefter_first (position A.right) (position B.right)),
    at_most_trans x hi (position B.right) hx hhi (right_proper hb) h (lefter_second (position A.right) (position B.right)),
  )

  -- ---- points of both over a position x of the common range
  self : (l : Line) (x : Fraction) → gap l l x ≤ℤ pos 0
  self l x = omega (zarith, height_refl l x)

  module _ (x : Fraction) (hx : Proper x) (from : T (not (before x lo))) (to : T (not (before hi x))) where
    -- the point of a line that no bottom is above and that is above no top
    shared_on : (l : Line) → IsLine l → gap A.bottom l x ≤ℤ pos 0 → gap B.bottom l x ≤ℤ pos 0 → gap l A.top x ≤ℤ pos 0 → gap l B.top x ≤ℤ pos 0 → Shared A B (on l x)
    shared_on l hl a b c d =
        let u = left_of x hx from in
        let v = right_of x hx to in
        (on_point l x hl hx, on_closed ha l x hl u.0 v.0 a c, on_closed hb l x hl u.1 v.1 b d)

    -- where each bottom is at or below the other's top, that of the higher bottom
    shared_at : gap A.bottom B.top x ≤ℤ pos 0 → gap B.bottom A.top x ≤ℤ pos 0 → (l : Line) × IsLine l × Shared A B (on l x)
    shared_at a_b b_a =
        let u = left_of x hx from in
        let v = right_of x hx to in
        elim (height_total A.bottom B.bottom x) [
          | inl k ↦ (B.bottom, bottom_line hb, shared_on B.bottom (bottom_line hb) k (self B.bottom x) b_a (sides_closed hb x hx u.1 v.1))
          | inr k ↦ (A.bottom, bottom_line ha, shared_on A.bottom (bottom_line ha) (self A.bottom x) k (sides_closed ha x hx u.0 v.0) a_b)
        ]

    -- where each is below both tops, also that of the lower top
    module _ (a_b : gap A.bottom B.top x <ℤ pos 0) (b_a : gap B.bottom A.top x <ℤ pos 0) (a_a : gap A.bottom A.top x <ℤ pos 0) (b_b : gap B.bottom B.top x <ℤ pos 0) where
      touch_upright : Touch A B
      touch_upright = go (height_total A.bottom B.bottom x) (height_total A.top B.top x)
        where
          two : (l m : Line) → IsLine l → IsLine m → gap A.bottom l x ≤ℤ pos 0 → gap B.bottom l x ≤ℤ pos 0 → gap l m x <ℤ pos 0 → gap m A.top x ≤ℤ pos 0 → gap m B.top x ≤ℤ pos 0 → Touch A B
          two l m hl hm a b g c d =
              record {
                one = on l x;
                other = on m x;
                one_shared = shared_on l hl a b (height_trans l m A.top x hl hm (top_line ha) (lt→le g) c) (height_trans l m B.top x hl hm (top_line hb) (lt→le g) d);
                other_shared = shared_on m hm (height_trans A.bottom l m x (bottom_line ha) hl hm a (lt→le g)) (height_trans B.bottom l m x (bottom_line hb) hl hm b (lt→le g)) c d;
                different = apart_up l m x hx g;
              }

          go : (gap A.bottom B.bottom x ≤ℤ pos 0) ⊎ (gap B.bottom A.bottom x ≤ℤ pos 0) → (gap A.top B.top x ≤ℤ pos 0) ⊎ (gap B.top A.top x ≤ℤ pos 0) → Touch A B
          go (inl b) (inl t) = two B.bottom A.top (bottom_line hb) (top_line ha) b (self B.bottom x) b_a (self A.top x) t
          go (inl b) (inr t) = two B.bottom B.top (bottom_line hb) (top_line hb) b (self B.bottom x) b_b t (self B.top x)
          go (inr b) (inl t) = two A.bottom A.top (bottom_line ha) (top_line ha) (self A.bottom x) b a_a (self A.top x) t
          go (inr b) (inr t) = two A.bottom B.top (bottom_line ha) (top_line hb) (self A.bottom x) b a_b t (self B.top x)

  -- ---- a position right of which each bottom is at or below the other's top has two positions to its right with a common point each
  touch_right_of : (p : Fraction) → Proper p → T (not (before p lo)) → T (before p hi) → T (touches_right A B p) → Touch A B
  unfolding touches_right
  touch_right_of p hp u v o =
      record {
        one = on at_x.0 x;
        other = on at_y.0 y;
        one_shared = at_x.2;
        other_shared = at_y.2;
        different = apart_across (on at_x.0 x) (on at_y.0 y) (on_before at_x.0 x (at (on at_y.0 y)) at_x.1 (on_after at_y.0 y x at_y.1 xy));
      }
    where
      b : T (not_above p A.bottom B.top) × T (not_above p B.bottom A.top)
      b = and_yes (not_above p A.bottom B.top) (not_above p B.bottom A.top) o

      first : Upto p hi A.bottom B.top
      first = upto p hi A.bottom B.top hp hhi v b.0

      second : Upto p first.end B.bottom A.top
      second = upto p first.end B.bottom A.top hp first.proper first.after b.1

      y : Fraction
      y = mediant p second.end

      x : Fraction
      x = mediant p y

      hy : Proper y
      hy = mediant_proper p second.end hp second.proper

      hx : Proper x
      hx = mediant_proper p y hp hy

      py : T (before p y)
      py = mediant_after p second.end second.after

      px : T (before p x)
      px = mediant_after p y py

      xy : T (before x y)
      xy = mediant-before p y py

      y_end : T (before y second.end)
      y_end = mediant-before p second.end second.after

      common : (z : Fraction) → Proper z → T (before p z) → T (before z second.end) → (l : Line) × IsLine l × Shared A B (on l z)
      common z hz pz ze =
          let z_first = before_at_most_trans z second.end first.end hz second.proper first.proper ze second.by in
          shared_at z hz (before→at_most lo z (at_most_before_trans lo p z hlo hp hz u pz)) (before→at_most z hi (before_at_most_trans z first.end hi hz first.proper hhi z_first first.by)) (first.between z hz pz z_first) (second.between z hz pz ze)

      at_x : (l : Line) × IsLine l × Shared A B (on l x)
      at_x = common x hx px (before_trans x y second.end hx hy second.proper xy y_end)

      at_y : (l : Line) × IsLine l × Shared A B (on l y)
      at_y = common y hy py y_end

  abbrev first : Base
  first = crossing A.bottom B.top

  abbrev second : Base
  second = crossing A.top B.bottom

  along→ : T (before lo hi) → T (touches_along A B) → Touch A B
  unfolding touches_along touches_from
  along→ w h =
      elim (or_yes (touches_right A B lo) (touches_from A B first || touches_from A B second) h) [
        | inl o ↦ touch_right_of lo hlo (at_most_refl lo) w o
        | inr o ↦ elim (or_yes (touches_from A B first) (touches_from A B second) o) [ inl c ↦ from first c | inr c ↦ from second c ]
      ]
    where
      from : (k : Base) → T (touches_from A B k) → Touch A B
      from k o =
          let a = and_yes (crosses_in_common A B k) (touches_right A B (position k)) o in
          let c = from-crossing A B k a.0 in
          touch_right_of (position k) (crossing_proper A B k a.0) (before→at_most lo (position k) c.after) c.by a.1

  upright→ : T (not (before hi lo)) → T (touches_upright A B lo) → Touch A B
  upright→ w h =
      let p = upright_parts A B lo h in
      touch_upright lo hlo (at_most_refl lo) w (lower→gap lo A.bottom B.top p.0) (lower→gap lo B.bottom A.top p.1) (lower→gap lo A.bottom A.top p.2) (lower→gap lo B.bottom B.top p.3)

  there : T (touches A B) → Touch A B
  unfolding touches
  there h =
      elim (yes_or_no (before lo hi)) [
        | inl w ↦ (let e : before lo hi ≡ true = true_is w in along→ w (rw e at h))
        | inr w ↦ (let e : before lo hi ≡ false = false_is w in let k = and_yes (not (before hi lo)) (touches_upright A B lo) (rw e at h) in upright→ k.0 k.1)
      ]

  -- ---- a position y after the left end at which each bottom is below the other's top, or coincides with it: this begins at one of the test's three
  module _ (y : Fraction) (hy : Proper y) (from : T (before lo y)) (to : T (not (before hi y))) (a_b : Under y A.bottom B.top) (b_a : Under y B.bottom A.top) where
    touches_right_lem : (p : Fraction) → T (not_above p A.bottom B.top) → T (not_above p B.bottom A.top) → T (touches_right A B p)
    unfolding touches_right
    touches_right_lem p u v = yes_and (not_above p A.bottom B.top) (not_above p B.bottom A.top) u v

    touches_from_lem : (k : Base) → T (crosses k.first k.second) → T (before lo (position k)) → T (before (position k) y) → T (touches_right A B (position k)) → T (touches_from A B k)
    unfolding touches_from
    touches_from_lem k h u v o =
        let by = before_at_most_trans (position k) y hi (meet_proper k.first k.second h) hy hhi v to in
        yes_and (crosses_in_common A B k) (touches_right A B (position k)) (to_crossing A B k (record { cross = h; after = u; by = by })) o

    at_first : T (touches_from A B first) → T (touches_along A B)
    unfolding touches_along
    at_first o = or_right (touches_right A B lo) (touches_from A B first || touches_from A B second) (or_left (touches_from A B first) (touches_from A B second) o)

    at_second : T (touches_from A B second) → T (touches_along A B)
    unfolding touches_along
    at_second o = or_right (touches_right A B lo) (touches_from A B first || touches_from A B second) (or_right (touches_from A B first) (touches_from A B second) o)

    -- from a position p before y right of which only A's bottom is at or below B's top: B's bottom comes below A's top at the second crossing
    second_enters : (p : Fraction) → Proper p → T (not (before p lo)) → T (before p y) → T (not_above p A.bottom B.top) → T (below p A.top B.bottom) → T (touches_along A B)
    unfolding not_above
    second_enters p hp lop py u n =
        let f = enters_turned p y B.bottom A.top hp hy (before→at_most p y py) (below→not_below p A.top B.bottom n) (comes_below y B.bottom A.top hy b_a p n) in
        let s = meet A.top B.bottom in
        let hs = meet_proper A.top B.bottom f.0 in
        let v = keeps y A.bottom B.top hy a_b p s hp hs u f.1.after f.1.by in
        at_second (touches_from_lem second f.0 (at_most_before_trans lo p s hlo hp hs lop f.1.after) f.1.by (touches_right_lem s v (below→not_below s B.bottom A.top f.1.below)))

    -- A's bottom comes below B's top at the first crossing; B's bottom is at or below A's top there, or comes below it later
    first_enters : T (below lo B.top A.bottom) → T (touches_along A B)
    unfolding not_above
    first_enters n =
        let e = enters lo y A.bottom B.top hlo hy (before→at_most lo y from) (below→not_below lo B.top A.bottom n) (comes_below y A.bottom B.top hy a_b lo n) in
        let r = meet A.bottom B.top in
        let hr = meet_proper A.bottom B.top e.0 in
        let u = below→not_below r A.bottom B.top e.1.below in
        elim (yes_or_no (below r A.top B.bottom)) [
          | inr v ↦ at_first (touches_from_lem first e.0 e.1.after e.1.by (touches_right_lem r u v))
          | inl n ↦ second_enters r hr (before→at_most lo r e.1.after) e.1.by u n
        ]

    begins : T (touches_along A B)
    unfolding touches_along not_above
    begins =
        elim (yes_or_no (below lo B.top A.bottom)) [
          | inl n ↦ first_enters n
          | inr u ↦ elim (yes_or_no (below lo A.top B.bottom)) [
            | inl n ↦ second_enters lo hlo (at_most_refl lo) from u n
            | inr v ↦ or_left (touches_right A B lo) (touches_from A B first || touches_from A B second) (touches_right_lem lo u v)
          ]
        ]

  yes_along : T (before lo hi) → T (touches_along A B) → T (touches A B)
  unfolding touches
  yes_along w h = let e : before lo hi ≡ true = true_is w in rw e h

  -- ---- two points of both, R' right of R
  module _ (R R' : Point) (s : Shared A B R) (s' : Shared A B R') where
    ra : Closed R A
    ra = from_closed R A s.1

    rb : Closed R B
    rb = from_closed R B s.2

    ra' : Closed R' A
    ra' = from_closed R' A s'.1

    rb' : Closed R' B
    rb' = from_closed R' B s'.2

    from_R : T (not (before (at R) lo))
    from_R = from_left ha hb (at R) s.0 ra.from rb.from

    spread : T (before (at R) (at R')) → T (touches A B)
    spread h =
        let y = mediant (at R) (at R') in
        let hy = mediant_proper (at R) (at R') s.0 s'.0 in
        let ly = at_most_before_trans lo (at R) y hlo s.0 hy from_R (mediant_after (at R) (at R') h) in
        let yh = before_at_most_trans y (at R') hi hy s'.0 hhi (mediant-before (at R) (at R') h) (to_closed (at R') ra'.to rb'.to) in
        yes_along (before_trans lo y hi hlo hy hhi ly yh)
        (begins y hy ly (before→at_most y hi yh)
        (under_between (at R) (at R') A.bottom B.top s.0 s'.0 h
        (between_lines A.bottom B.top R (bottom_line ha) (top_line hb) ra.bottom rb.top) (between_lines A.bottom B.top R' (bottom_line ha) (top_line hb) ra'.bottom rb'.top))
        (under_between (at R) (at R') B.bottom A.top s.0 s'.0 h
        (between_lines B.bottom A.top R (bottom_line hb) (top_line ha) rb.bottom ra.top) (between_lines B.bottom A.top R' (bottom_line hb) (top_line ha) rb'.bottom ra'.top)))

    -- ---- or over it
    module _ (level : cross (at R) (at R') ≡ pos 0) (up : R.Y ⊗ R'.D <ℤ R'.Y ⊗ R.D) where
      across : R.X ⊗ R'.D ≡ R'.X ⊗ R.D
      unfolding cross
      across = let e : R.X ⊗ R'.D ⊖ R'.X ⊗ R.D ≡ pos 0 = level in omega (zarith, e, difference (R.X ⊗ R'.D) (R'.X ⊗ R.D))

      -- a line that R is not below, and one that R' is not above
      strict : (l m : Line) → IsLine l → IsLine m → pos 0 ≤ℤ orientation l R → orientation m R' ≤ℤ pos 0 → gap l m (at R) <ℤ pos 0
      unfolding under
      strict l m hl hm a b = strictly_between l m R hl hm a.le (not_T (le_z (pos 0) (orientation m R)) (λ z. clash_ℤ (beneath R R' s.0 s'.0 across up m hm b) (le_z_yes z)))

      a_b : gap A.bottom B.top (at R) <ℤ pos 0
      a_b = strict A.bottom B.top (bottom_line ha) (top_line hb) ra.bottom rb'.top

      b_a : gap B.bottom A.top (at R) <ℤ pos 0
      b_a = strict B.bottom A.top (bottom_line hb) (top_line ha) rb.bottom ra'.top

      to_R : T (not (before hi (at R)))
      to_R = to_closed (at R) ra.to rb.to

      module _ (l m : Line) (e : T (not (before lo (at R)))) (g : gap l m (at R) <ℤ pos 0) where
        at_left : gap l m lo <ℤ pos 0
        at_left = gap_level l m (at R) lo s.0 hlo (antisymm (at_most→cross lo (at R) from_R) (neg_ge (cross_turn (at R) lo) (at_most→cross (at R) lo e))) g

        right_left : T (not_above lo l m)
        unfolding not_above
        right_left = below→not_below lo l m (lower→below lo l m (inl at_left))

      along : T (touches_along A B)
      unfolding touches_along touches_right
      along =
          elim (yes_or_no (before lo (at R))) [
            | inl h ↦ begins (at R) s.0 h to_R (inl a_b) (inl b_a)
            | inr e ↦ or_left (touches_right A B lo) (touches_from A B first || touches_from A B second)
                (yes_and (not_above lo A.bottom B.top) (not_above lo B.bottom A.top) (right_left A.bottom B.top e a_b) (right_left B.bottom A.top e b_a))
          ]

      upright : T (not (before lo hi)) → T (touches_upright A B lo)
      upright w =
          let lower : (l m : Line) → gap l m (at R) <ℤ pos 0 → T (lower_at lo l m) = λ l m g. gap→lower lo l m (at_left l m (at_most_trans (at R) hi lo s.0 hhi hlo to_R w) g) in
          upright_whole A B lo (lower A.bottom B.top a_b) (lower B.bottom A.top b_a)
          (lower A.bottom A.top (strict A.bottom A.top (bottom_line ha) (top_line ha) ra.bottom ra'.top))
          (lower B.bottom B.top (strict B.bottom B.top (bottom_line hb) (top_line hb) rb.bottom rb'.top))

      stack : T (touches A B)
      unfolding touches
      stack =
          elim (yes_or_no (before lo hi)) [
            | inl w ↦ yes_along w along
            | inr w ↦ (let e : before lo hi ≡ false = false_is w in rw e (yes_and (not (before hi lo)) (touches_upright A B lo) (at_most_trans lo (at R) hi hlo s.0 hhi from_R to_R) (upright w)))
          ]

  back : Touch A B → T (touches A B)
  unfolding cross
  back c =
      let R = c.one in
      let R' = c.other in
      let s = c.one_shared in
      let s' = c.other_shared in
      elim (before-total (at R) (at R')) [
        | inl h ↦ spread R R' s s' h
        | inr k ↦ elim k [
          | inr h ↦ spread R' R s' s h
          | inl e ↦ elim (trichotomy (R.Y ⊗ R'.D) (R'.Y ⊗ R.D)) [
            | inl u ↦ stack R R' s s' e u
            | inr u ↦ elim u [
              | inr v ↦ stack R' R s' s (neg_zero (cross_turn (at R) (at R')) e) v
              | inl v ↦ absurd (c.different (record { across = across_by (R.X ⊗ R'.D) (R'.X ⊗ R.D) e; up = v }))
            ]
          ]
        ]
      ]
    where
      across_by : (a b : ℤ) → a ⊖ b ≡ pos 0 → a ≡ b
      across_by a b e = omega (zarith, e, difference a b)

  overlap : Common A B → Touch A B
  unfolding touches_right not_above
  overlap c =
      let P = c.0 in
      let a = from_lies P A c.2 in
      let b = from_lies P B c.3 in
      let a_b = strictly_between A.bottom B.top P (bottom_line ha) (top_line hb) a.bottom b.top in
      let b_a = strictly_between B.bottom A.top P (bottom_line hb) (top_line ha) b.bottom a.top in
      touch_right_of (at P) c.1 (from_left ha hb (at P) c.1 a.from b.from) (to_right ha hb (at P) c.1 a.to b.to)
      (yes_and (not_above (at P) A.bottom B.top) (not_above (at P) B.bottom A.top)
      (below→not_below (at P) A.bottom B.top (lower→below (at P) A.bottom B.top (inl a_b)))
      (below→not_below (at P) B.bottom A.top (lower→below (at P) B.bottom A.top (inl b_a))))

pub touches_exact : TouchesExact
touches_exact L A B ha hb = (there L A B ha hb, back L A B ha hb)

pub common_touch : CommonTouch
common_touch L A B ha hb c = overlap L A B ha hb c

-- either way round
pub touch_turn : (A B : Trapezoid) → Touch A B → Touch B A
touch_turn A B c =
    record {
      one = c.one;
      other = c.other;
      one_shared = (c.one_shared.0, c.one_shared.2, c.one_shared.1);
      other_shared = (c.other_shared.0, c.other_shared.2, c.other_shared.1);
      different = c.different;
    }
