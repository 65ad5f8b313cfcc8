-- The definitions compute: which trapezoids touch and which only share one point, and components joined by a later trapezoid.
use mathlib.Core.Path.{◌≡◌, refl}
use mathlib.Core.List.{List, [], ◌∷◌}
use Prim.Native.Nat.{ℕ, suc, ◌+◌}
use lib.IntN.{pos}
use Rattle.integer.specs.Integer.{◌⊖◌, ◌⊗◌}
use Rattle.integer.specs.Compare.{order_of}
use Rattle.integer.specs.Fraction.{before}
use Rattle.geometry.specs.declared.Line.{Line}
use Rattle.geometry.specs.declared.Base.{Base}
use Rattle.geometry.specs.declared.Trapezoid.{Trapezoid}
use Rattle.geometry.specs.Lines.{dx, dy, offset, det, numer}
use Rattle.geometry.specs.Positions.{crosses, ratio, meet, heights, right_of, below}
use Rattle.geometry.specs.Ranges.{common_left, common_right}
use Rattle.overlay.specs.Overlaps.{crosses_in_common}
use Rattle.connectivity.specs.Touching.{not_above, touches_right, touches_from, touches_along, lower_at, touches_upright, touches}
use Rattle.connectivity.specs.Components.{own_numbers, relabelled, joined_numbers, joined_first, joined_all, owners, touching_at, component_numbers, component_count}

abbrev line : ℕ → ℕ → ℕ → ℕ → Line
line a b c d = record { x1 = pos a; y1 = pos b; x2 = pos c; y2 = pos d }

-- the base at k
abbrev upright : ℕ → Base
upright k = record { first = line 0 0 1 0; second = line k 0 (suc k) 1 }

-- from a to c, between two lines
abbrev between : ℕ → ℕ → Line → Line → Trapezoid
between a c l m = record { left = upright a; right = upright c; bottom = l; top = m }

-- [a, c) × [b, d)
abbrev box : ℕ → ℕ → ℕ → ℕ → Trapezoid
box a b c d = between a c (line a b c b) (line a d c d)

-- the halves of the diamond with the tips (a, b + 2), (a + 2, b), (a + 4, b + 2) and (a + 2, b + 4)
abbrev left_half : ℕ → ℕ → Trapezoid
left_half a b = between a (2 + a) (line a (2 + b) (2 + a) b) (line a (2 + b) (2 + a) (4 + b))

abbrev right_half : ℕ → ℕ → Trapezoid
right_half a b = between (2 + a) (4 + a) (line (2 + a) b (4 + a) (2 + b)) (line (2 + a) (4 + b) (4 + a) (2 + b))

-- the numbers, and how many components
abbrev Numbers : List Trapezoid → List ℕ → ℕ → Type 0
Numbers ts ns n = (component_numbers ts ≡ ns) × (component_count ts ≡ n)

-- of two trapezoids: they touch, or they do not
abbrev One : Trapezoid → Trapezoid → Type 0
One t u = Numbers (t ∷ u ∷ []) (0 ∷ 0 ∷ []) 1 × Numbers (u ∷ t ∷ []) (0 ∷ 0 ∷ []) 1

abbrev Two : Trapezoid → Trapezoid → Type 0
Two t u = Numbers (t ∷ u ∷ []) (0 ∷ 1 ∷ []) 2 × Numbers (u ∷ t ∷ []) (0 ∷ 1 ∷ []) 2

-- (e): Q and [4, 8) × [0, 4) are one component
abbrev CaseE : Type 0
CaseE = One (box 0 0 4 4) (box 4 0 8 4)

-- "Q and [4,8)×[4,8) now have two."
abbrev Corner : Type 0
Corner = Two (box 0 0 4 4) (box 4 4 8 8)

-- ---- trapezoids that share more than a point
-- part of an upright base
abbrev PartOfBase : Type 0
PartOfBase = One (box 0 0 4 4) (box 4 2 8 6)

-- part of a slanted side, from (2, 2) to (4, 4)
abbrev PartOfSide : Type 0
PartOfSide = One (between 0 4 (line 0 0 4 0) (line 0 0 4 4)) (between 2 6 (line 2 2 6 6) (line 2 8 6 8))

-- they overlap where their sides cross
abbrev Overlap : Type 0
Overlap = One (box 0 0 4 4) (between 0 4 (line 0 6 4 2) (line 0 8 4 8))

-- ---- trapezoids that share one point
-- one end of a side: (4, 4), the right end of a top and of a bottom
abbrev EndOfSide : Type 0
EndOfSide = Two (between 0 4 (line 0 0 4 0) (line 0 0 4 4)) (box 0 4 4 8)

-- a triangle's tip on an upright base
abbrev TipOnBase : Type 0
TipOnBase = Two (between 0 4 (line 0 0 4 2) (line 0 4 4 2)) (box 4 0 8 4)

-- collinear sides that share (4, 4)
abbrev Collinear : Type 0
Collinear = Two (between 0 4 (line 0 0 4 0) (line 0 0 4 4)) (between 4 8 (line 4 4 8 8) (line 4 8 8 8))

-- a diamond's tip on a side: the halves are one component, and the box is another
abbrev TipOnSide : Type 0
TipOnSide = Numbers (left_half 0 0 ∷ right_half 0 0 ∷ box 0 4 4 8 ∷ []) (0 ∷ 0 ∷ 2 ∷ []) 2

-- a tip on a tip, one diamond over the other and one beside the other
abbrev TipOnTip : Type 0
TipOnTip = Numbers (left_half 0 0 ∷ right_half 0 0 ∷ left_half 0 4 ∷ right_half 0 4 ∷ left_half 4 0 ∷ right_half 4 0 ∷ []) (0 ∷ 0 ∷ 2 ∷ 2 ∷ 4 ∷ 4 ∷ []) 3

-- ---- components
abbrev Away : Type 0
Away = Two (box 0 0 4 4) (box 5 0 8 4)

-- the fourth touches the first and the third, which touches the second; the fifth touches none
abbrev Bridge : Type 0
Bridge = Numbers (box 0 0 4 4 ∷ box 12 0 16 4 ∷ box 8 0 12 4 ∷ box 4 0 8 4 ∷ box 0 8 4 9 ∷ []) (0 ∷ 0 ∷ 0 ∷ 0 ∷ 4 ∷ []) 2

abbrev Computed : Type 0
Computed = CaseE × Corner × PartOfBase × PartOfSide × Overlap × EndOfSide × TipOnBase × Collinear × Away

examples : Computed × TipOnSide × TipOnTip × Bridge
unfolding ◌⊖◌ ◌⊗◌ order_of before dx dy offset det numer crosses ratio meet heights right_of below common_left common_right crosses_in_common
    not_above touches_right touches_from touches_along lower_at touches_upright touches own_numbers relabelled joined_numbers joined_first joined_all owners touching_at component_numbers component_count
examples = ((((refl, refl), (refl, refl)), ((refl, refl), (refl, refl)), ((refl, refl), (refl, refl)), ((refl, refl), (refl, refl)), ((refl, refl), (refl, refl)), ((refl, refl), (refl, refl)), ((refl, refl), (refl, refl)), ((refl, refl), (refl, refl)), ((refl, refl), (refl, refl))), (refl, refl), (refl, refl), (refl, refl))
