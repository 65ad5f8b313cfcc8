-- The definitions compute: fractions rounded, each side of a box rounded outward, a base past 2³⁰, and boxes whose edges meet.
use mathlib.Core.Path.{◌≡◌, refl}
use mathlib.Core.Bool.{Bool, true, false}
use Prim.Native.Nat.{ℕ, suc}
use lib.IntN.{ℤ, pos, negsuc}
use Rattle.integer.specs.Integer.{◌⊕◌, ◌⊖◌, ◌⊗◌, ⊝◌}
use Rattle.geometry.specs.declared.Line.{Line}
use Rattle.geometry.specs.declared.Base.{Base}
use Rattle.geometry.specs.Limit.{on_grid}
use Rattle.geometry.specs.Lines.{dx, dy, offset, det, numer}
use Rattle.geometry.specs.Positions.{ratio, meet}
use Rattle.boxes.specs.declared.Box.{Box}
use Rattle.boxes.specs.Whole.{floor, ceiling}
use Rattle.boxes.specs.Boxes.{near, endless, height_below, height_above, lowest, highest, int, left_end, right_end, box_of, boxes_apart_by, boxes_apart, boxes_disjoint}

-- −7/2 lies between −4 and −3, and −6/2 is −3
rounding : (floor (negsuc 6) (pos 2) ≡ negsuc 3) × (ceiling (negsuc 6) (pos 2) ≡ negsuc 2) × (floor (negsuc 5) (pos 2) ≡ negsuc 2) × (ceiling (negsuc 5) (pos 2) ≡ negsuc 2)
unfolding floor ceiling ⊝◌
rounding = (refl, refl, refl, refl)

-- ---- boxes of trapezoids
abbrev line : ℤ → ℤ → ℤ → ℤ → Line
line a b c d = record { x1 = a; y1 = b; x2 = c; y2 = d }

abbrev box : ℤ → ℤ → ℤ → ℤ → Box
box l r b t = record { left = int l; right = int r; bottom = int b; top = int t }

-- the base where a line crosses the level through 0
abbrev base : Line → Base
base l = record { first = line (pos 0) (pos 0) (pos 1) (pos 0); second = l }

-- at −7/2, −1/2 and 7/2
abbrev p : Base
p = base (line (pos 0) (pos 7) (pos 1) (pos 9))

abbrev q : Base
q = base (line (pos 0) (pos 1) (pos 1) (pos 3))

abbrev r : Base
r = base (line (pos 0) (negsuc 6) (pos 1) (negsuc 4))

-- lines through (0, k) that rise and fall by 1 in 3
abbrev rising : ℕ → Line
rising k = line (pos 0) (pos k) (pos 3) (pos (suc k))

abbrev falling : ℕ → Line
falling k = line (pos 0) (pos (suc k)) (pos 3) (pos k)

-- a falling bottom is lowest at 4, where its height is −1/3, and a rising top highest there: 19/3
abbrev Opening : Type 0
Opening = box_of (record { left = p; right = r; bottom = falling 0; top = rising 5 }) ≡ box (negsuc 3) (pos 4) (negsuc 0) (pos 7)

-- a rising bottom is lowest at −4, where its height is −1/3, and a falling top highest there: 22/3
abbrev Closing : Type 0
Closing = box_of (record { left = p; right = q; bottom = rising 1; top = falling 5 }) ≡ box (negsuc 3) (pos 0) (negsuc 0) (pos 8)

-- ---- past 2³⁰
-- at 2³¹ and −2³¹
abbrev far : Base
far = base (line (pos 0) (negsuc 4095) (pos 524288) (negsuc 4094))

abbrev away : Base
away = base (line (pos 0) (pos 4096) (pos 524288) (pos 4097))

-- the box has no end on the sides whose line is lowest or highest there
abbrev Endless : Type 0
Endless = box_of (record { left = p; right = far; bottom = falling 0; top = rising 5 }) ≡ box (negsuc 3) (pos 2147483648) (⊝ (pos endless)) (pos endless)

abbrev OneEnd : Type 0
OneEnd = box_of (record { left = away; right = r; bottom = rising 1; top = rising 5 }) ≡ box (negsuc 2147483647) (pos 4) (⊝ (pos endless)) (pos 7)

-- the last position with a height is 2³⁰
abbrev LastHeight : Type 0
LastHeight = (height_above (pos 3) (pos 1) (pos 0) (pos near) ≡ pos 357913942) × (height_above (pos 3) (pos 1) (pos 0) (pos (suc near)) ≡ pos endless)

boxes : Opening × Closing × Endless × OneEnd × LastHeight
unfolding box_of left_end right_end lowest highest height_below height_above floor ceiling meet ratio det numer dx dy offset on_grid ◌⊕◌ ◌⊖◌ ◌⊗◌ ⊝◌
boxes = (refl, refl, refl, refl, (refl, refl))

-- ---- two boxes
-- whether e and f are apart, and whether they are disjoint, in either order
abbrev Tests : Box → Box → Bool → Bool → Type 0
Tests e f a d = (boxes_apart e f ≡ a) × (boxes_apart f e ≡ a) × (boxes_disjoint e f ≡ d) × (boxes_disjoint f e ≡ d)

abbrev square : Box
square = box (pos 0) (pos 4) (pos 0) (pos 4)

-- beside and above it: edges that meet, a step between, and a step in common
abbrev Beside : Type 0
Beside =
    Tests square (box (pos 4) (pos 8) (pos 0) (pos 4)) false true
    × Tests square (box (pos 5) (pos 8) (pos 0) (pos 4)) true true
    × Tests square (box (pos 3) (pos 8) (pos 0) (pos 4)) false false

abbrev Above : Type 0
Above =
    Tests square (box (pos 0) (pos 4) (pos 4) (pos 8)) false true
    × Tests square (box (pos 0) (pos 4) (pos 5) (pos 8)) true true
    × Tests square (box (pos 0) (pos 4) (pos 3) (pos 8)) false false

tests : Beside × Above
unfolding boxes_apart_by
tests = (
  ((refl, refl, refl, refl), (refl, refl, refl, refl), (refl, refl, refl, refl)),
  ((refl, refl, refl, refl), (refl, refl, refl, refl), (refl, refl, refl, refl)),
)
