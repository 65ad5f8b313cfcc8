-- Crossings between two positions, and the overlap test by where the sides meet.
use Rattle.std.specs.Prelude.{◌≡◌, Bool, true, false, ◌&&◌, Option, Some, None}
use Rattle.integer.specs.Fraction.{Fraction, before}
use Rattle.geometry.specs.declared.Position.{Position}
use Rattle.geometry.specs.declared.Line.{Line}
use Rattle.geometry.specs.declared.Base.{Base}
use Rattle.geometry.specs.declared.Trapezoid.{Trapezoid}
use Rattle.geometry.specs.declared.Meeting.{Meeting}
use Rattle.geometry.specs.declared.Position.{Position}
use Rattle.geometry.specs.Positions.{crosses, position}
use Rattle.geometry.specs.Ranges.{crossing, common_left, common_right}
use Rattle.overlay.specs.declared.Meetings.{Meetings}
use Rattle.overlay.specs.Overlaps.{overlap_right, overlaps}
use Rattle.geometry_code.specs.Code.{MeetingOf, PositionOf}

-- the lines of k cross strictly between lo and hi; `crosses_in_common` is this of the common range
unfoldable pub cross_between : Fraction → Fraction → Base → Bool
cross_between lo hi k = crosses k.first k.second && (before lo (position k) && before (position k) hi)

abbrev pub CrossingBetween : Fraction → Fraction → Line → Line → Option Position → Type 0
CrossingBetween lo hi l m None = cross_between lo hi (crossing l m) ≡ false
CrossingBetween lo hi l m (Some p) = (cross_between lo hi (crossing l m) ≡ true) × PositionOf (crossing l m) p

-- of whichever lines have this meeting
abbrev pub MeetingBetween : Fraction → Fraction → Meeting → Option Position → Type 0
MeetingBetween lo hi k r = (l m : Line) → MeetingOf l m k → CrossingBetween lo hi l m r

-- where the sides of A meet those of B
pub record MeetingsOf (A B : Trapezoid) (m : Meetings) : Type 0 where
  pub m02 : MeetingOf A.bottom B.bottom m.m02
  pub m03 : MeetingOf A.bottom B.top m.m03
  pub m12 : MeetingOf A.top B.bottom m.m12
  pub m13 : MeetingOf A.top B.top m.m13

-- ---- the test, of whichever trapezoids A and B have these meetings: of A's bottom with B's top, and of A's top with B's bottom
pub record Opposed (A B : Trapezoid) (m k : Meeting) : Type 0 where
  pub bottom_top : MeetingOf A.bottom B.top m
  pub top_bottom : MeetingOf A.top B.bottom k

abbrev pub OverlapRightBy : Meeting → Meeting → Fraction → Bool → Type 0
OverlapRightBy m k x r = (A B : Trapezoid) → Opposed A B m k → r ≡ overlap_right A B x

abbrev pub OverlapFromBy : Meeting → Meeting → Meeting → Fraction → Fraction → Bool → Type 0
OverlapFromBy m k j lo hi r =
    (A B : Trapezoid) (l n : Line) → Opposed A B m k → MeetingOf l n j → r ≡ cross_between lo hi (crossing l n) && overlap_right A B (position (crossing l n))

abbrev pub OverlapsBy : Meeting → Meeting → Fraction → Fraction → Bool → Type 0
OverlapsBy m k lo hi r = (A B : Trapezoid) → Opposed A B m k → lo ≡ common_left A B → hi ≡ common_right A B → before lo hi ≡ true → r ≡ overlaps A B
