-- The definitions compute: which corners of a square lie in it, and how the bases of paper 01's trap stand to each other.
use mathlib.Core.Path.{◌≡◌, refl}
use mathlib.Core.Bool.{true, false}
use Prim.Native.Nat.{ℕ, suc}
use lib.IntN.{pos}
use Rattle.integer.specs.Integer.{◌⊕◌, ◌⊖◌, ◌⊗◌, ⊝◌}
use Rattle.integer.specs.Compare.{order_of}
use Rattle.integer.specs.Fraction.{before, order}
use Rattle.geometry.specs.declared.Line.{Line}
use Rattle.geometry.specs.declared.Base.{Base}
use Rattle.geometry.specs.declared.Horizontal.TheVariants.{Left, Level, Right}
use Rattle.geometry.specs.declared.Trapezoid.{Trapezoid}
use Rattle.geometry.specs.Lines.{dx, dy, offset, det, numer}
use Rattle.geometry.specs.Positions.{crosses, ratio, meet}
use Rattle.geometry.specs.Standing.{across, one_sign, horizontal, base_ratio, standing}
use Rattle.geometry.specs.Points.{Point, orientation, under}
use Rattle.geometry.specs.Trapezoids.{lies_in, lies_in_closed}

abbrev line : ℕ → ℕ → ℕ → ℕ → Line
line a b c d = record { x1 = pos a; y1 = pos b; x2 = pos c; y2 = pos d }

abbrev base_at : ℕ → Base
base_at k = record { first = line 0 0 1 0; second = line k 0 (suc k) 1 }

-- [0, 4) × [0, 4)
abbrev square : Trapezoid
square = record { left = base_at 0; right = base_at 4; bottom = line 0 0 4 0; top = line 0 4 4 4 }

abbrev point : ℕ → ℕ → Point
point x y = record { X = pos x; Y = pos y; D = pos 1 }

-- "left base ≤ point < right base and bottom ≤ point < top"
corners : (lies_in (point 0 0) square ≡ true) × (lies_in (point 4 0) square ≡ false) × (lies_in (point 0 4) square ≡ false) × (lies_in (point 4 4) square ≡ false)
unfolding ◌⊕◌ ◌⊖◌ ◌⊗◌ ⊝◌ order_of before dx dy offset det numer crosses ratio meet orientation under lies_in
corners = (refl, refl, refl, refl)

-- "The closed piece has ≤ in all four places."
closed_corners : (lies_in_closed (point 0 0) square ≡ true) × (lies_in_closed (point 4 0) square ≡ true) × (lies_in_closed (point 0 4) square ≡ true) × (lies_in_closed (point 4 4) square ≡ true)
    × (lies_in_closed (point 5 4) square ≡ false) × (lies_in_closed (point 4 5) square ≡ false)
unfolding ◌⊕◌ ◌⊖◌ ◌⊗◌ ⊝◌ order_of before dx dy offset det numer crosses ratio meet orientation under lies_in_closed
closed_corners = (refl, refl, refl, refl, refl, refl)

-- "Lines 0 0 1 0 and 0 0 1 1 meet at 0, lines 0 0 1 0 and 2 1 3 0 at 3; the bare products call 0 not left of 3."
abbrev base : Line → Line → Base
base l m = record { first = l; second = m }

abbrev at_zero : Base
at_zero = base (line 0 0 1 0) (line 0 0 1 1)

abbrev at_three : Base
at_three = base (line 0 0 1 0) (line 2 1 3 0)

trap : (standing at_zero at_three ≡ Left) × (standing at_three at_zero ≡ Right) × (across (order (base_ratio at_zero) (base_ratio at_three)) ≡ Right)
unfolding ◌⊕◌ ◌⊖◌ ◌⊗◌ ⊝◌ order_of order dx dy offset det numer ratio one_sign horizontal
trap = (refl, refl, refl)

-- each line mirrored left to right, upside down, and both
abbrev sideways : Line → Line
sideways l = record { x1 = ⊝ l.x2; y1 = l.y2; x2 = ⊝ l.x1; y2 = l.y1 }

abbrev downward : Line → Line
downward l = record { x1 = l.x1; y1 = ⊝ l.y1; x2 = l.x2; y2 = ⊝ l.y2 }

abbrev mirrored : (Line → Line) → Base → Base
mirrored f b = base (f b.first) (f b.second)

mirror_images :
    (standing (mirrored sideways at_zero) (mirrored sideways at_three) ≡ Right) × (standing (mirrored downward at_zero) (mirrored downward at_three) ≡ Left)
    × (standing (mirrored (λ l. sideways (downward l)) at_zero) (mirrored (λ l. sideways (downward l)) at_three) ≡ Right)
unfolding ◌⊕◌ ◌⊖◌ ◌⊗◌ ⊝◌ order_of order dx dy offset det numer ratio one_sign horizontal
mirror_images = (refl, refl, refl)

-- a base with its lines exchanged has the determinant of the other sign and stands where it stood
abbrev swapped : Base → Base
swapped b = base b.second b.first

lines_exchanged : (standing (swapped at_zero) at_three ≡ Left) × (standing at_zero (swapped at_three) ≡ Left) × (standing (swapped at_zero) (swapped at_three) ≡ Left) × (standing at_zero (swapped at_zero) ≡ Level)
unfolding ◌⊕◌ ◌⊖◌ ◌⊗◌ ⊝◌ order_of order dx dy offset det numer ratio one_sign horizontal
lines_exchanged = (refl, refl, refl, refl)
