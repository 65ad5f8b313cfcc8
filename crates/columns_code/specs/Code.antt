-- The meetings and the orders of four sides, which of them is in front, the state of a column, and exchanges in its order.
use Rattle.std.specs.Prelude.{◌≡◌, List, ◌⊎◌, Bool, true, cond, ℕ, ◌<◌, length, get_or, set}
use Rattle.lists.specs.Lists.{All}
use Rattle.std.specs.declared.cmp.Ordering.{Ordering}
use Rattle.std.specs.declared.cmp.Ordering.TheVariants.{Less}
use Rattle.integer.specs.Fraction.{Fraction}
use Rattle.geometry.specs.declared.Trapezoid.{Trapezoid}
use Rattle.geometry.specs.Limit.{coordinate_limit}
use Rattle.geometry.specs.Positions.{right_of}
use Rattle.geometry.specs.Fitness.{FitFor}
use Rattle.overlay.specs.declared.Column.{Column}
use Rattle.overlay.specs.declared.Meetings.{Meetings}
use Rattle.overlay.specs.declared.Orders.{Orders}
use Rattle.overlay.specs.declared.Fronts.{Fronts}
use Rattle.overlay.specs.Overlay.{in_range}
use Rattle.geometry_code.specs.Code.{SmallMeeting, order_right}
use Rattle.columns_code.specs.Order.{HasSides, line_of_side, present_by, number_less, order_at}

pub record SmallMeetings (m : Meetings) : Type 0 where
  pub m02 : SmallMeeting m.m02
  pub m03 : SmallMeeting m.m03
  pub m12 : SmallMeeting m.m12
  pub m13 : SmallMeeting m.m13

-- the orders right of x by the meetings m
pub record OrdersBy (m : Meetings) (x : Fraction) (o : Orders) : Type 0 where
  pub o02 : o.o02 ≡ order_right m.m02 x
  pub o03 : o.o03 ≡ order_right m.m03 x
  pub o12 : o.o12 ≡ order_right m.m12 x
  pub o13 : o.o13 ≡ order_right m.m13 x

-- the orders right of x of the sides of A and B; fa and fb say whether x is in the range of A and of B, where its bottom is below its top
pub record OrdersAt (A B : Trapezoid) (x : Fraction) (fa fb : Bool) (o : Orders) : Type 0 where
  pub o02 : o.o02 ≡ right_of x (line_of_side A B 0) (line_of_side A B 2)
  pub o03 : o.o03 ≡ right_of x (line_of_side A B 0) (line_of_side A B 3)
  pub o12 : o.o12 ≡ right_of x (line_of_side A B 1) (line_of_side A B 2)
  pub o13 : o.o13 ≡ right_of x (line_of_side A B 1) (line_of_side A B 3)
  pub first : fa ≡ true → right_of x (line_of_side A B 0) (line_of_side A B 1) ≡ Less
  pub second : fb ≡ true → right_of x (line_of_side A B 2) (line_of_side A B 3) ≡ Less

-- the order of the sides i and j, of whichever trapezoids and position have the orders o: one trapezoid's own sides are present both or neither
abbrev pub OrderIn : Orders → ℕ → ℕ → Ordering → Type 0
OrderIn o i j r = (A B : Trapezoid) (x : Fraction) (fa fb : Bool) → OrdersAt A B x fa fb o → present_by fa fb j ≡ true → r ≡ right_of x (line_of_side A B i) (line_of_side A B j)

-- the presence of the one or of the other is enough
abbrev pub OrderUp : Orders → ℕ → ℕ → Ordering → Type 0
OrderUp o i j r = (A B : Trapezoid) (x : Fraction) (fa fb : Bool) → OrdersAt A B x fa fb o → (present_by fa fb i ≡ true) ⊎ (present_by fa fb j ≡ true) → r ≡ right_of x (line_of_side A B i) (line_of_side A B j)

abbrev pub LessIn : Orders → Bool → Bool → ℕ → ℕ → Bool → Type 0
LessIn o fa fb i j r = (A B : Trapezoid) (x : Fraction) → OrdersAt A B x fa fb o → r ≡ number_less A B x fa fb i j

-- which of each two sides is in front of the other right of x
pub record FrontsAt (A B : Trapezoid) (x : Fraction) (fa fb : Bool) (f : Fronts) : Type 0 where
  pub f01 : f.f01 ≡ number_less A B x fa fb 0 1
  pub f02 : f.f02 ≡ number_less A B x fa fb 0 2
  pub f03 : f.f03 ≡ number_less A B x fa fb 0 3
  pub f12 : f.f12 ≡ number_less A B x fa fb 1 2
  pub f13 : f.f13 ≡ number_less A B x fa fb 1 3
  pub f23 : f.f23 ≡ number_less A B x fa fb 2 3

abbrev pub FrontsIn : Orders → Bool → Bool → Fronts → Type 0
FrontsIn o fa fb r = (A B : Trapezoid) (x : Fraction) → OrdersAt A B x fa fb o → FrontsAt A B x fa fb r

-- whether the side i is in front of the side j, of whichever trapezoids and position f comes from
abbrev pub FrontIn : Fronts → ℕ → ℕ → Bool → Type 0
FrontIn f i j r = (A B : Trapezoid) (x : Fraction) (fa fb : Bool) → FrontsAt A B x fa fb f → r ≡ number_less A B x fa fb i j

-- the state stands for the column right of x
pub record ColumnAt (A B : Trapezoid) (x : Fraction) (c : Column) : Type 0 where
  pub in_a_is : c.in_a ≡ in_range x A
  pub in_b_is : c.in_b ≡ in_range x B
  pub order : c.order ≡ order_at A B x c.in_a c.in_b

abbrev pub ColumnBy : Orders → Bool → Bool → Column → Type 0
ColumnBy o fa fb r =
    (A B : Trapezoid) (x : Fraction) → FitFor coordinate_limit A → FitFor coordinate_limit B → OrdersAt A B x fa fb o → fa ≡ in_range x A → fb ≡ in_range x B → ColumnAt A B x r

-- four side numbers
pub record FourNumbers (order : List ℕ) : Type 0 where
  pub long : length order ≡ 4
  pub small : All (λ (y : ℕ). y < 4) order

-- each of them there
pub record FourSides (order : List ℕ) : Type 0 where
  pub long : length order ≡ 4
  pub all : HasSides order

-- the entries number i and j, which change places if `less` says so
abbrev pub exchanged : (ℕ → ℕ → Bool) → ℕ → ℕ → List ℕ → List ℕ
exchanged less i j l = cond (less (get_or l j 0) (get_or l i 0)) (set (set l i (get_or l j 0)) j (get_or l i 0)) l

-- r is c with the entries i and j put in order right of x
pub record Exchanged (A B : Trapezoid) (x : Fraction) (fa fb : Bool) (i j : ℕ) (c r : Column) : Type 0 where
  pub in_a_is : r.in_a ≡ c.in_a
  pub in_b_is : r.in_b ≡ c.in_b
  pub order : r.order ≡ exchanged (number_less A B x fa fb) i j c.order

abbrev pub ExchangedIn : Fronts → ℕ → ℕ → Column → Column → Type 0
ExchangedIn f i j c r = (A B : Trapezoid) (x : Fraction) (fa fb : Bool) → FrontsAt A B x fa fb f → Exchanged A B x fa fb i j c r
