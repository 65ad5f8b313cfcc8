-- The overlap test, branch by branch as the functions take it.
use Rattle.std.specs.Prelude.{Option, Some, None}
use mathlib.Core.Path.{◌≡◌, refl, sym, ◌∙◌, ap, subst}
use mathlib.Core.Bool.{Bool, true, false, ◌&&◌}
use Rattle.integer.specs.Fraction.{Fraction, before}
use Rattle.geometry.specs.declared.Line.{Line}
use Rattle.geometry.specs.declared.Base.{Base}
use Rattle.geometry.specs.declared.Trapezoid.{Trapezoid}
use Rattle.geometry.specs.declared.Meeting.{Meeting}
use Rattle.geometry.specs.Positions.{crosses, position, is_less, is_greater, below}
use Rattle.geometry.specs.declared.Position.{Position}
use Rattle.geometry.specs.Ranges.{crossing, common_left, common_right}
use Rattle.overlay.specs.Overlaps.{crosses_in_common, overlap_right, overlap_from, overlaps}
use Rattle.geometry.proofs.Heights.{right_tests}
use Rattle.geometry_code.specs.Code.{PositionOf, order_right}
use Rattle.geometry_code.proofs.Branches.{right_meeting}
use Rattle.overlaps_code.specs.Code.{cross_between, CrossingBetween, Opposed}

-- ---- the overlap test
module _ (A B : Trapezoid) (p : Fraction) where
  pub right_yes : {r : Bool} → below p A.bottom B.top ≡ true → r ≡ below p B.bottom A.top → r ≡ overlap_right A B p
  unfolding overlap_right
  right_yes e f = rw e f

  pub right_no : below p A.bottom B.top ≡ false → false ≡ overlap_right A B p
  unfolding overlap_right
  right_no e = rw e

-- by the meetings
module _ (A B : Trapezoid) (m k : Meeting) (p : Fraction) (h : Opposed A B m k) where
  pub right_first : {r : Bool} → r ≡ is_less (order_right m p) → below p A.bottom B.top ≡ r
  unfolding below
  right_first e = sym (e ∙ ap is_less (right_meeting A.bottom B.top m p h.bottom_top))

  pub right_second : {r : Bool} → r ≡ is_greater (order_right k p) → r ≡ below p B.bottom A.top
  right_second e = e ∙ ap is_greater (right_meeting A.top B.bottom k p h.top_bottom) ∙ sym (right_tests p A.top B.bottom _ refl).1

-- ---- where two lines cross, against two positions
module _ (lo hi : Fraction) (k : Base) where
  pub between_parallel : crosses k.first k.second ≡ false → cross_between lo hi k ≡ false
  unfolding cross_between
  between_parallel e = rw e

  module _ (c : crosses k.first k.second ≡ true) where
    pub between_left : before lo (position k) ≡ false → cross_between lo hi k ≡ false
    unfolding cross_between
    between_left e = rw (c, e)

    pub between_right : before lo (position k) ≡ true → before (position k) hi ≡ false → cross_between lo hi k ≡ false
    unfolding cross_between
    between_right e f = rw (c, e, f)

    pub between_inside : before lo (position k) ≡ true → before (position k) hi ≡ true → cross_between lo hi k ≡ true
    unfolding cross_between
    between_inside e f = rw (c, e, f)

module _ (lo hi : Fraction) (l m : Line) (r : Option Position) (h : CrossingBetween lo hi l m r) where
  pub between_none : r ≡ None → cross_between lo hi (crossing l m) ≡ false
  between_none e = subst (CrossingBetween lo hi l m) e h

  pub between_at : (p : Position) → r ≡ Some p → (cross_between lo hi (crossing l m) ≡ true) × PositionOf (crossing l m) p
  between_at p e = subst (CrossingBetween lo hi l m) e h

-- ---- the whole test
module _ (A B : Trapezoid) where
  abbrev From : Base → Bool
  From k = cross_between (common_left A B) (common_right A B) k && overlap_right A B (position k)

  pub apart : before (common_left A B) (common_right A B) ≡ false → false ≡ overlaps A B
  unfolding overlaps
  apart e = rw e

  module _ (wide : before (common_left A B) (common_right A B) ≡ true) where
    pub from_start : overlap_right A B (common_left A B) ≡ true → true ≡ overlaps A B
    unfolding overlaps
    from_start e = rw (wide, e)

    module _ (start : overlap_right A B (common_left A B) ≡ false) where
      pub from_first : From (crossing A.bottom B.top) ≡ true → true ≡ overlaps A B
      unfolding overlaps overlap_from crosses_in_common cross_between
      from_first e = rw (wide, start, e)

      pub from_second : {r : Bool} → From (crossing A.bottom B.top) ≡ false → r ≡ From (crossing A.top B.bottom) → r ≡ overlaps A B
      unfolding overlaps overlap_from crosses_in_common cross_between
      from_second e f = rw (wide, start, e) f
