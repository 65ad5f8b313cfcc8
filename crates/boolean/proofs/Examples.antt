-- The definitions compute: overlays counted, space met on the way, and results word for word.
use mathlib.Core.Path.{◌≡◌, refl}
use mathlib.Core.List.{List, [], ◌∷◌}
use Prim.Native.Nat.{ℕ, suc}
use lib.Dec.{lit<}
use lib.IntN.{pos}
use Rattle.lists.specs.Tests.{keep}
use Rattle.integer.specs.Integer.{◌⊕◌, ◌⊖◌, ◌⊗◌, ⊝◌}
use Rattle.integer.specs.Compare.{order_of}
use Rattle.integer.specs.Fraction.{before}
use Rattle.levels.specs.Levels.{insert, levels}
use Rattle.geometry.specs.declared.Line.{Line}
use Rattle.geometry.specs.declared.Base.{Base}
use Rattle.geometry.specs.declared.Trapezoid.{Trapezoid}
use Rattle.geometry.specs.Lines.{dx, dy, offset, det, numer}
use Rattle.geometry.specs.Positions.{crosses, ratio, meet, heights, right_of, below}
use Rattle.geometry.specs.Ranges.{crossing, common_left, common_right}
use Rattle.sources.specs.Sets.{single, joined}
use Rattle.sources.specs.Sourced.{Sourced}
use Rattle.sweep.specs.Segments.{spans}
use Rattle.sweep.specs.Sweep.{columns, sweep}
use Rattle.overlay.specs.Overlaps.{crosses_in_common, overlap_right, overlap_from, overlaps}
use Rattle.overlay.specs.Overlay.{sides, side_crossings, overlay_events, fills, tag_above, stack, parts, subdivision, overlay, tagged}
use Rattle.boolean.specs.Operations.{union, intersect, a_minus_b, b_minus_a, symmetric_difference, code_at, minus, minus_all, difference, common, intersection, result, deoverlapped_from, deoverlapped, OperandOf}
use Rattle.boolean.specs.Space.{overlaid, addition, enough, no_room, space, stages, minus_stages, minus_all_stages, difference_stages, common_stages, intersection_stages, equality_stages}
use Rattle.boolean.specs.Sources.{sourced_difference, sourced_common, sourced_intersection, sourced_result, sourced_deoverlapped_from, sourced_deoverlapped}

abbrev line : ℕ → ℕ → ℕ → ℕ → Line
line a b c d = record { x1 = pos a; y1 = pos b; x2 = pos c; y2 = pos d }

-- the base at k
abbrev base_at : ℕ → Base
base_at k = record { first = line 0 0 1 0; second = line k 0 (suc k) 1 }

abbrev trapezoid : Base → Base → Line → Line → Trapezoid
trapezoid p q l m = record { left = p; right = q; bottom = l; top = m }

-- [a, c) × [b, d)
abbrev box : ℕ → ℕ → ℕ → ℕ → Trapezoid
box a b c d = trapezoid (base_at a) (base_at c) (line a b c b) (line a d c d)

-- [a, c) with the sides of a wider box
abbrev cell : ℕ → ℕ → Line → Line → Trapezoid
cell a c l m = trapezoid (base_at a) (base_at c) l m

abbrev one : Trapezoid → List Trapezoid
one t = t ∷ []

-- ---- codes
-- "Code 0 union", "Code 1 intersection", 2 and 3 the differences A−B and B−A, "Code 4"
numbered : (code_at 0 ≡ union) × (code_at 1 ≡ intersect) × (code_at 2 ≡ a_minus_b) × (code_at 3 ≡ b_minus_a) × (code_at 4 ≡ symmetric_difference)
numbered = (refl, refl, refl, refl, refl)

-- ---- overlays
-- two squares that do not overlap: one overlay in the intersection, with nothing in the result, and one in the difference, which leaves the first
abbrev NoOverlap : Type 0
NoOverlap =
    (stages intersect (one (box 0 0 1 1)) (one (box 2 0 3 1)) ≡ overlaid 0 ∷ [])
    × (stages a_minus_b (one (box 0 0 1 1)) (one (box 2 0 3 1)) ≡ overlaid 1 ∷ addition 1 ∷ [])

-- ---- space
-- a square that stays, and a box of three squares; minus the box's middle square, and then its right one
abbrev stays_and_wide : List Trapezoid
stays_and_wide = box 0 0 1 1 ∷ box 2 0 5 1 ∷ []

abbrev middle_and_right : List Trapezoid
middle_and_right = box 3 0 4 1 ∷ box 4 0 5 1 ∷ []

-- at the fourth stage the result so far has 1 trapezoid and the remainder 2, the squares left and right of the middle. Each fits in a room of 2, and
-- so does the result at the end, but the two together do not: no room, after 3 overlays
abbrev Sum : Type 0
Sum =
    (stages a_minus_b stays_and_wide middle_and_right ≡ overlaid 1 ∷ overlaid 1 ∷ addition 1 ∷ overlaid 3 ∷ overlaid 3 ∷ overlaid 2 ∷ addition 2 ∷ [])
    × (space 2 (stages a_minus_b stays_and_wide middle_and_right) ≡ no_room 3)
    × (space 3 (stages a_minus_b stays_and_wide middle_and_right) ≡ enough 5)
    × (difference stays_and_wide middle_and_right ≡ box 0 0 1 1 ∷ cell 2 3 (line 2 0 5 0) (line 2 1 5 1) ∷ [])

-- two squares with themselves: the second is still whole after the overlay with the first, beside the two of the result
abbrev two : List Trapezoid
two = box 0 0 1 1 ∷ box 2 0 3 1 ∷ []

abbrev Itself : Type 0
Itself = (space 2 (stages union two two) ≡ no_room 2) × (space 3 (stages union two two) ≡ enough 3) × (result union two two ≡ two)

-- ---- equality
-- [0, 1) × [0, 1) and [0, 2) × [0, 1): nothing is left of the first, [1, 2) × [0, 1) of the second; one overlay for each difference.
-- The other way round the first difference is not empty, and the second is not made.
abbrev Differ : Type 0
Differ =
    (difference (one (box 0 0 1 1)) (one (box 0 0 2 1)) ≡ [])
    × (difference (one (box 0 0 2 1)) (one (box 0 0 1 1)) ≡ cell 1 2 (line 0 0 2 0) (line 0 1 2 1) ∷ [])
    × (equality_stages (one (box 0 0 1 1)) (one (box 0 0 2 1)) ≡ overlaid 0 ∷ addition 0 ∷ overlaid 1 ∷ addition 1 ∷ [])
    × OperandOf (difference (one (box 0 0 1 1)) (one (box 0 0 2 1))) (difference (one (box 0 0 2 1)) (one (box 0 0 1 1))) 1
    × (equality_stages (one (box 0 0 2 1)) (one (box 0 0 1 1)) ≡ overlaid 1 ∷ addition 1 ∷ [])

-- ---- the order of the results
-- A = [0, 2) × [0, 1) and B = [1, 3) × [0, 1)
abbrev A : Trapezoid
A = box 0 0 2 1

abbrev B : Trapezoid
B = box 1 0 3 1

-- what is left of A, and of B
abbrev A_minus_B : Trapezoid
A_minus_B = cell 0 1 (line 0 0 2 0) (line 0 1 2 1)

abbrev B_minus_A : Trapezoid
B_minus_A = cell 2 3 (line 1 0 3 0) (line 1 1 3 1)

-- A whole, then B−A; not A−B, then B whole
abbrev Union : Type 0
Union = result union (one A) (one B) ≡ A ∷ B_minus_A ∷ []

-- A−B, then B−A
abbrev Either : Type 0
Either = result symmetric_difference (one A) (one B) ≡ A_minus_B ∷ B_minus_A ∷ []

-- two upright strips with two level ones: the first upright one with both, then the second with both; each upright one's line where sides coincide
abbrev Order : Type 0
Order =
    result intersect (box 0 0 1 2 ∷ box 1 0 2 2 ∷ []) (box 0 0 2 1 ∷ box 0 1 2 2 ∷ [])
    ≡ cell 0 1 (line 0 0 1 0) (line 0 1 2 1)
    ∷ cell 0 1 (line 0 1 2 1) (line 0 2 1 2)
    ∷ cell 1 2 (line 1 0 2 0) (line 0 1 2 1)
    ∷ cell 1 2 (line 0 1 2 1) (line 1 2 2 2)
    ∷ []

-- ---- the remainder is A in the overlay
-- [0, 2) × [0, 2), and two over the same range: the top of the one rises and that of the other falls across the square's top, at 1. The first has
-- a left base of another name, and the second a right base.
abbrev square : Trapezoid
square = box 0 0 2 2

abbrev rising : Trapezoid
rising = trapezoid (crossing (line 0 0 1 1) (line 0 0 1 2)) (base_at 2) (line 0 0 2 0) (line 0 1 2 3)

abbrev falling : Trapezoid
falling = trapezoid (base_at 0) (crossing (line 0 0 1 0) (line 1 1 2 0)) (line 0 0 2 0) (line 0 3 2 1)

-- the corners of the square above them: the base has the square's name, and the crossing names the square's top first
abbrev left_corner : Trapezoid
left_corner = trapezoid (base_at 0) (crossing (line 0 2 2 2) (line 0 1 2 3)) (line 0 1 2 3) (line 0 2 2 2)

abbrev right_corner : Trapezoid
right_corner = trapezoid (crossing (line 0 2 2 2) (line 0 3 2 1)) (base_at 2) (line 0 3 2 1) (line 0 2 2 2)

-- what stands on the square, along a shorter line: the square stays, with its own line
abbrev upon : Trapezoid
upon = box 0 2 1 3

abbrev InDifference : Type 0
InDifference =
    (difference (one square) (one rising) ≡ left_corner ∷ [])
    × (difference (one square) (one falling) ≡ right_corner ∷ [])
    × (difference (one square) (one upon) ≡ square ∷ [])

-- the later trapezoid is the remainder, and the result's is B in the overlay
abbrev InDeoverlapping : Type 0
InDeoverlapping =
    (deoverlapped (rising ∷ square ∷ []) ≡ rising ∷ left_corner ∷ [])
    × (deoverlapped (falling ∷ square ∷ []) ≡ falling ∷ right_corner ∷ [])
    × (deoverlapped (upon ∷ square ∷ []) ≡ upon ∷ square ∷ [])

-- ---- sets
-- A of the source layer 0 and B of the source layer 31
abbrev of : ℕ → Trapezoid → Sourced
of k t = record { shape = t; sources = single k }

-- both in the intersection, and in the differences and the deoverlapped layer the one in hand
abbrev Sets : Type 0
Sets =
    (sourced_result intersect (of 0 A ∷ []) (of 31 B ∷ []) ≡ record { shape = cell 1 2 (line 0 0 2 0) (line 0 1 2 1); sources = joined (single 0) (single 31) } ∷ [])
    × (sourced_result union (of 0 A ∷ []) (of 31 B ∷ []) ≡ of 0 A ∷ of 31 B_minus_A ∷ [])
    × (sourced_result symmetric_difference (of 0 A ∷ []) (of 31 B ∷ []) ≡ of 0 A_minus_B ∷ of 31 B_minus_A ∷ [])
    × (sourced_deoverlapped (of 31 B ∷ of 0 A ∷ []) ≡ of 31 B ∷ of 0 A_minus_B ∷ [])

examples : NoOverlap × Sum × Itself × Differ × Union × Either × Order × InDifference × InDeoverlapping × Sets
unfolding ◌⊕◌ ◌⊖◌ ◌⊗◌ ⊝◌ order_of before insert levels dx dy offset det numer crosses ratio meet heights right_of below keep spans columns sweep
    common_left common_right crosses_in_common overlap_right overlap_from overlaps sides side_crossings overlay_events fills tag_above stack parts subdivision overlay tagged
    minus minus_all difference common intersection deoverlapped_from space minus_stages minus_all_stages difference_stages common_stages intersection_stages
    sourced_difference sourced_common sourced_intersection sourced_deoverlapped_from
examples = (
  (refl, refl),
  (refl, refl, refl, refl),
  (refl, refl, refl),
  (refl, refl, refl, (lit< tt, refl), refl),
  refl,
  refl,
  refl,
  (refl, refl, refl),
  (refl, refl, refl),
  (refl, refl, refl, refl),
)
