-- How the functions' structs stand for the numbers of the definitions.
use Rattle.std.specs.Prelude.{◌≡◌, not, ◌*◌, ◌≤◌, T, pos, nat_abs, ◌<ℤ◌, Option, Some, None}
use Rattle.integer.specs.declared.Int.{Int}
use Rattle.std.specs.declared.cmp.Ordering.{Ordering}
use Rattle.integer.specs.Integer.{◌⊗◌, ◌⊖◌}
use Rattle.integer.specs.Compare.{order_of}
use Rattle.integer.specs.Fraction.{Fraction, Proper}
use Rattle.geometry.specs.declared.Line.{Line}
use Rattle.geometry.specs.declared.Base.{Base}
use Rattle.geometry.specs.declared.Corners.{Corners}
use Rattle.geometry.specs.declared.Coefficients.{Coefficients}
use Rattle.geometry.specs.declared.Meeting.{Meeting}
use Rattle.geometry.specs.declared.Position.{Position}
use Rattle.geometry.specs.Limit.{coordinate_limit, max_denominator, det_bound, numer_bound}
use Rattle.geometry.specs.Lines.{dx, dy, offset, det, numer}
use Rattle.geometry.specs.Positions.{crosses, ratio, meet, position, then_by}
use Rattle.geometry.specs.Standing.{NotZero}
use Rattle.geometry.specs.Points.{Point}

pub record CornersOf (l : Line) (k : Corners) : Type 0 where
  pub x1 : k.x1.v ≡ l.x1
  pub y1 : k.y1.v ≡ l.y1
  pub x2 : k.x2.v ≡ l.x2
  pub y2 : k.y2.v ≡ l.y2

pub record SmallCoefficients (c : Coefficients) : Type 0 where
  pub dx_small : nat_abs c.dx.v ≤ 2 * coordinate_limit
  pub dy_small : nat_abs c.dy.v ≤ 2 * coordinate_limit
  pub offset_small : nat_abs c.offset.v ≤ 2 * (coordinate_limit * coordinate_limit)

-- the three numbers of a line, with their magnitudes
pub record CoefficientsOf (l : Line) (c : Coefficients) : Type 0 where
  pub dx : c.dx.v ≡ dx l
  pub dy : c.dy.v ≡ dy l
  pub offset : c.offset.v ≡ offset l
  pub small : SmallCoefficients c

-- a determinant and a numerator as a comparison takes them
pub record SmallMeeting (k : Meeting) : Type 0 where
  pub det_small : nat_abs k.det.v ≤ det_bound coordinate_limit
  pub numer_small : nat_abs k.numer.v ≤ numer_bound coordinate_limit

-- the determinant and the numerator by the numbers of two lines (proofs/Branches.antt: `meeting_by`)
pub record MeetingBy (a b : Coefficients) (k : Meeting) : Type 0 where
  pub det : k.det.v ≡ a.dy.v ⊗ b.dx.v ⊖ b.dy.v ⊗ a.dx.v
  pub numer : k.numer.v ≡ a.dx.v ⊗ b.offset.v ⊖ b.dx.v ⊗ a.offset.v
  pub small : SmallMeeting k

-- the two numbers by which two lines are compared
pub record MeetingOf (l m : Line) (k : Meeting) : Type 0 where
  pub det : k.det.v ≡ det l m
  pub numer : k.numer.v ≡ numer l m
  pub small : SmallMeeting k

abbrev pub fraction_of : Position → Fraction
fraction_of p = record { num = p.num.v; den = p.den.v }

-- a position as the comparison takes it: "either sign of both determinants, which are never zero"
pub record Comparable (p : Position) : Type 0 where
  pub num_small : nat_abs p.num.v ≤ numer_bound coordinate_limit
  pub den_small : nat_abs p.den.v ≤ det_bound coordinate_limit
  pub den_not_zero : NotZero p.den.v

-- a position that is kept or that heights are taken at
pub record SmallPosition (p : Position) : Type 0 where
  pub comparable : Comparable p
  pub proper : Proper (fraction_of p)

-- the order right of x by a determinant and a numerator: of the lines that have them it is `right_of` (proofs/Branches.antt: `right_meeting`)
unfoldable pub order_right : Meeting → Fraction → Ordering
order_right k x = then_by (order_of (x.num ⊗ k.det.v) (k.numer.v ⊗ x.den)) (order_of k.det.v (pos 0))

-- where two lines cross, or that they do not: as the lines give it, and with a positive denominator
abbrev pub RatioOf : Line → Line → Option Position → Type 0
RatioOf l m None = T (not (crosses l m))
RatioOf l m (Some p) = T (crosses l m) × (fraction_of p ≡ ratio l m) × Comparable p

abbrev pub CrossingOf : Line → Line → Option Position → Type 0
CrossingOf l m None = T (not (crosses l m))
CrossingOf l m (Some p) = T (crosses l m) × (fraction_of p ≡ meet l m) × SmallPosition p

-- of whichever lines have the determinant and the numerator of k
abbrev pub CrossingBy : Meeting → Option Position → Type 0
CrossingBy k r = (l m : Line) → MeetingOf l m k → CrossingOf l m r

-- the position can be kept
abbrev pub SmallCrossing : Option Position → Type 0
SmallCrossing None = Unit {0}
SmallCrossing (Some p) = SmallPosition p

pub record PositionOf (b : Base) (p : Position) : Type 0 where
  pub is : fraction_of p ≡ position b
  pub small : SmallPosition p

abbrev pub point_of : Int → Int → Int → Point
point_of x y d = record { X = x.v; Y = y.v; D = d.v }

-- X, Y and D as row 3 lets them pass: D from 1 to 1,024, X and Y up to D times the limit
pub record SmallPoint (x y d : Int) : Type 0 where
  pub x_small : nat_abs x.v ≤ max_denominator * coordinate_limit
  pub y_small : nat_abs y.v ≤ max_denominator * coordinate_limit
  pub d_small : nat_abs d.v ≤ max_denominator
  pub d_positive : pos 0 <ℤ d.v
