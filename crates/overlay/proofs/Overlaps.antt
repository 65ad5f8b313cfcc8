-- The test `overlaps` says yes exactly if some rational point lies in both trapezoids.
use mathlib.Core.Bool.{Bool, not, ◌||◌}
use mathlib.Core.Logic.{◌⊎◌, inl, inr, ◌↔◌}
use Prim.Native.Nat.{ℕ}
use lib.Dec.{T, T_not, not_T}
use lib.IntN.{pos}
use lib.Signed.{◌≤ℤ◌, ◌<ℤ◌}
use mir.Facts.{and_yes, yes_and, or_yes}
use Rattle.lists.proofs.Tests.{yes_or_no, or_left, or_right}
use Rattle.lists.proofs.Lists.{pairs_with}
use Rattle.integer.specs.Fraction.{Fraction, Proper, before, mediant}
use Rattle.integer.proofs.Order.{lt_or_le}
use Rattle.integer.proofs.Linear.{zarith, neg_le, neg_ge}
use Rattle.integer.proofs.Fraction.{at_most_refl, before→at_most, at_most_before_trans, before_at_most_trans, before_trans, mediant_proper, mediant_after, mediant-before}
use Rattle.geometry.specs.declared.Line.{Line}
use Rattle.geometry.specs.declared.Base.{Base}
use Rattle.geometry.specs.declared.Trapezoid.{Trapezoid}
use Rattle.geometry.specs.Lines.{IsLine}
use Rattle.geometry.specs.Positions.{gap, crosses, meet, position, below}
use Rattle.geometry.specs.Points.{Point, at, under}
use Rattle.geometry.specs.Trapezoids.{lies_in, Apart}
use Rattle.geometry.specs.Fitness.{FitFor}
use Rattle.geometry.specs.Ranges.{common_left, common_right, crossing}
use Rattle.geometry.proofs.Identities.{gap_turn, height_refl}
use Rattle.geometry.proofs.Heights.{height_total}
use Rattle.geometry.proofs.Meet.{meet_proper}
use Rattle.geometry.proofs.Orders.{under_transitive}
use Rattle.geometry.proofs.Points.{on, on_point, on_other, on_after, on_before, on_below}
use Rattle.geometry.proofs.Fitness.{bottom_line, top_line}
use Rattle.geometry.proofs.Ranges.{fit_based, common_left_proper, common_right_proper, from_left, to_right, left_after, right_to}
use Rattle.overlay.specs.Overlaps.{Common, crosses_in_common, overlap_right, overlap_from, overlaps, OverlapsExact, DisjointExact}
use Rattle.overlay.proofs.Ranges.{from_lies, to_lies, from-crossing, to_crossing, crossing_proper}
use Rattle.overlay.proofs.Entering.{Until, until, enters, enters_turned, persists}

-- at or above l and below m: l is below m there
pub strictly_between : (l m : Line) (P : Point) → IsLine l → IsLine m → T (under P l) → T (not (under P m)) → gap l m (at P) <ℤ pos 0
strictly_between l m P hl hm u n = elim (lt_or_le (gap l m (at P)) (pos 0)) [ inl k ↦ k | inr k ↦ absurd (T_not (under P m) n (under_transitive m l P hm hl (neg_le (gap_turn l m (at P)) k) u)) ]

-- the point of l over x is at or above each line that is not above l there
on_above : (l m : Line) (x : Fraction) → gap m l x ≤ℤ pos 0 → T (under (on l x) m)
unfolding under
on_above l m x h = let k : pos 0 ≤ℤ gap l m x = neg_ge (gap_turn m l x) h in rw (on_other l m x) k.le

module _ {L : ℕ} {t : Trapezoid} (h : FitFor L t) (l : Line) (x : Fraction) (hl : IsLine l) where
  -- it lies in t
  on_lies : T (before (position t.left) x) → T (before x (position t.right)) → gap t.bottom l x ≤ℤ pos 0 → gap l t.top x <ℤ pos 0 → T (lies_in (on l x) t)
  on_lies u v b c =
      to_lies (on l x) t (fit_based h) (record {
        from = before→at_most (position t.left) (at (on l x)) (on_after l x (position t.left) hl u);
        to = on_before l x (position t.right) hl v;
        bottom = on_above l t.bottom x b;
        top = on_below l t.top x c;
      })

module _ (L : ℕ) (A B : Trapezoid) (ha : FitFor L A) (hb : FitFor L B) where
  hlo : Proper (common_left A B)
  hlo = common_left_proper ha hb

  hhi : Proper (common_right A B)
  hhi = common_right_proper ha hb

  -- ---- a position from which on each bottom is below the other's top has a common point to its right: on the higher bottom
  common_right_of : (p : Fraction) → Proper p → T (not (before p (common_left A B))) → T (before p (common_right A B)) → T (overlap_right A B p) → Common A B
  unfolding overlap_right
  common_right_of p hp u v o = go (height_total A.bottom B.bottom x)
    where
      b : T (below p A.bottom B.top) × T (below p B.bottom A.top)
      b = and_yes (below p A.bottom B.top) (below p B.bottom A.top) o

      first : Until p (common_right A B) A.bottom B.top
      first = until p (common_right A B) A.bottom B.top hp hhi v b.0

      second : Until p first.end B.bottom A.top
      second = until p first.end B.bottom A.top hp first.proper first.after b.1

      x : Fraction
      x = mediant p second.end

      hx : Proper x
      hx = mediant_proper p second.end hp second.proper

      px : T (before p x)
      px = mediant_after p second.end second.after

      x_second : T (before x second.end)
      x_second = mediant-before p second.end second.after

      x_first : T (before x first.end)
      x_first = before_at_most_trans x second.end first.end hx second.proper first.proper x_second second.by

      left : T (before (position A.left) x) × T (before (position B.left) x)
      left = left_after ha hb x hx (at_most_before_trans (common_left A B) p x hlo hp hx u px)

      right : T (before x (position A.right)) × T (before x (position B.right))
      right = right_to ha hb x hx (before_at_most_trans x first.end (common_right A B) hx first.proper hhi x_first first.by)

      self : (l : Line) → gap l l x ≤ℤ pos 0
      self l = omega (zarith, height_refl l x)

      go : (gap A.bottom B.bottom x ≤ℤ pos 0) ⊎ (gap B.bottom A.bottom x ≤ℤ pos 0) → Common A B
      go (inl k) = (
        on B.bottom x,
        on_point B.bottom x (bottom_line hb) hx,
        on_lies ha B.bottom x (bottom_line hb) left.0 right.0 k (second.between x hx px x_second),
        on_lies hb B.bottom x (bottom_line hb) left.1 right.1 (self B.bottom) (hb.sides x hx left.1 right.1),
      )
      go (inr k) = (
        on A.bottom x,
        on_point A.bottom x (bottom_line ha) hx,
        on_lies ha A.bottom x (bottom_line ha) left.0 right.0 (self A.bottom) (ha.sides x hx left.0 right.0),
        on_lies hb A.bottom x (bottom_line ha) left.1 right.1 k (first.between x hx px x_first),
      )

  abbrev first : Base
  first = crossing A.bottom B.top

  abbrev second : Base
  second = crossing A.top B.bottom

  -- the test's three positions
  abbrev starts : Bool
  starts = overlap_right A B (common_left A B) || (overlap_from A B first || overlap_from A B second)

  there : T (overlaps A B) → Common A B
  unfolding overlaps overlap_from
  there h =
      let k = and_yes (before (common_left A B) (common_right A B)) starts h in
      elim (or_yes (overlap_right A B (common_left A B)) (overlap_from A B first || overlap_from A B second) k.1) [
        | inl o ↦ common_right_of (common_left A B) hlo (at_most_refl (common_left A B)) k.0 o
        | inr o ↦ elim (or_yes (overlap_from A B first) (overlap_from A B second) o) [ inl c ↦ from first c | inr c ↦ from second c ]
      ]
    where
      from : (k : Base) → T (overlap_from A B k) → Common A B
      from k o =
          let a = and_yes (crosses_in_common A B k) (overlap_right A B (position k)) o in
          let c = from-crossing A B k a.0 in
          common_right_of (position k) (crossing_proper A B k a.0) (before→at_most (common_left A B) (position k) c.after) c.by a.1

  -- ---- a position x in the common range at which each bottom is below the other's top: this begins at one of the three
  module _ (x : Fraction) (hx : Proper x) (from : T (not (before x (common_left A B)))) (to : T (before x (common_right A B)))
      (a_b : gap A.bottom B.top x <ℤ pos 0) (b_a : gap B.bottom A.top x <ℤ pos 0) where
    overlap_right_lem : (p : Fraction) → T (below p A.bottom B.top) → T (below p B.bottom A.top) → T (overlap_right A B p)
    unfolding overlap_right
    overlap_right_lem p u v = yes_and (below p A.bottom B.top) (below p B.bottom A.top) u v

    overlap_from_lem : (k : Base) → T (crosses k.first k.second) → T (before (common_left A B) (position k)) → T (before (position k) x) → T (overlap_right A B (position k)) → T (overlap_from A B k)
    unfolding overlap_from
    overlap_from_lem k h u v o =
        let by = before_trans (position k) x (common_right A B) (meet_proper k.first k.second h) hx hhi v to in
        yes_and (crosses_in_common A B k) (overlap_right A B (position k)) (to_crossing A B k (record { cross = h; after = u; by = by })) o

    at_first : T (overlap_from A B first) → T starts
    at_first o = or_right (overlap_right A B (common_left A B)) (overlap_from A B first || overlap_from A B second) (or_left (overlap_from A B first) (overlap_from A B second) o)

    at_second : T (overlap_from A B second) → T starts
    at_second o = or_right (overlap_right A B (common_left A B)) (overlap_from A B first || overlap_from A B second) (or_right (overlap_from A B first) (overlap_from A B second) o)

    -- from a position p left of x right of which only A's bottom is below B's top: B's bottom comes below A's top at the second crossing
    second_enters : (p : Fraction) → Proper p → T (not (before p (common_left A B))) → T (not (before x p)) → T (below p A.bottom B.top) → T (not (below p B.bottom A.top)) → T starts
    second_enters p hp lop px u n =
        let f = enters_turned p x B.bottom A.top hp hx px n b_a in
        let s = meet A.top B.bottom in
        let hs = meet_proper A.top B.bottom f.0 in
        let v = persists p s x A.bottom B.top hp hs hx u a_b f.1.after f.1.by in
        at_second (overlap_from_lem second f.0 (at_most_before_trans (common_left A B) p s hlo hp hs lop f.1.after) f.1.by (overlap_right_lem s v f.1.below))

    -- A's bottom comes below B's top at the first crossing; B's bottom is below A's top there, or comes below it later
    first_enters : T (not (below (common_left A B) A.bottom B.top)) → T starts
    first_enters n =
        let e = enters (common_left A B) x A.bottom B.top hlo hx from n a_b in
        let r = meet A.bottom B.top in
        let hr = meet_proper A.bottom B.top e.0 in
        elim (yes_or_no (below r B.bottom A.top)) [
          | inl h ↦ at_first (overlap_from_lem first e.0 e.1.after e.1.by (overlap_right_lem r e.1.below h))
          | inr h ↦ second_enters r hr (before→at_most (common_left A B) r e.1.after) (before→at_most r x e.1.by) e.1.below h
        ]

    begins : T starts
    begins =
        let lo = common_left A B in
        elim (yes_or_no (below lo A.bottom B.top)) [
          | inr n ↦ first_enters n
          | inl u ↦ elim (yes_or_no (below lo B.bottom A.top)) [
            | inl v ↦ or_left (overlap_right A B lo) (overlap_from A B first || overlap_from A B second) (overlap_right_lem lo u v)
            | inr n ↦ second_enters lo hlo (at_most_refl lo) from u n
          ]
        ]

  back : Common A B → T (overlaps A B)
  unfolding overlaps
  back c =
      let P = c.0 in
      let a = from_lies P A c.2 in
      let b = from_lies P B c.3 in
      let from = from_left ha hb (at P) c.1 a.from b.from in
      let to = to_right ha hb (at P) c.1 a.to b.to in
      let a_b = strictly_between A.bottom B.top P (bottom_line ha) (top_line hb) a.bottom b.top in
      let b_a = strictly_between B.bottom A.top P (bottom_line hb) (top_line ha) b.bottom a.top in
      yes_and (before (common_left A B) (common_right A B)) starts (at_most_before_trans (common_left A B) (at P) (common_right A B) hlo c.1 hhi from to) (begins (at P) c.1 from to a_b b_a)

pub overlaps_exact : OverlapsExact
overlaps_exact L A B ha hb = (there L A B ha hb, back L A B ha hb)

-- and no exactly if they are apart
pub apart_exact : (L : ℕ) (A B : Trapezoid) → FitFor L A → FitFor L B → T (not (overlaps A B)) ↔ Apart A B
apart_exact L A B ha hb = (
  (λ h P hP a b. T_not (overlaps A B) h (back L A B ha hb (P, hP, a, b))),
  (λ h. not_T (overlaps A B) (λ o. let c = there L A B ha hb o in h c.0 c.1 c.2 c.3)),
)

-- ---- lists
pub disjoint_exact : DisjointExact
disjoint_exact L ts h = (
  pairs_with (λ t u ht hu. (apart_exact L t u ht hu).1) ts h,
  pairs_with (λ t u ht hu. (apart_exact L t u ht hu).0) ts h,
)
