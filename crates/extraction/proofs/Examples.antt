-- The definitions compute: a cell, the order of the triples, which shape must lie in which, overlays counted and space met on the way.
use mathlib.Core.Path.{◌≡◌, refl}
use mathlib.Core.List.{List, [], ◌∷◌}
use Prim.Native.Nat.{ℕ, suc}
use lib.IntN.{pos}
use Rattle.lists.specs.Lists.{each}
use Rattle.lists.specs.Tests.{keep}
use Rattle.integer.specs.Integer.{◌⊕◌, ◌⊖◌, ◌⊗◌, ⊝◌}
use Rattle.integer.specs.Compare.{order_of}
use Rattle.integer.specs.Fraction.{before}
use Rattle.levels.specs.Levels.{insert, levels}
use Rattle.geometry.specs.declared.Line.{Line}
use Rattle.geometry.specs.declared.Base.{Base}
use Rattle.geometry.specs.declared.Trapezoid.{Trapezoid}
use Rattle.geometry.specs.Lines.{dx, dy, offset, det, numer}
use Rattle.geometry.specs.Positions.{crosses, ratio, meet, heights, right_of, below}
use Rattle.geometry.specs.Ranges.{common_left, common_right}
use Rattle.sweep.specs.Segments.{spans}
use Rattle.sweep.specs.Sweep.{columns, sweep}
use Rattle.overlay.specs.Overlaps.{crosses_in_common, overlap_right, overlap_from, overlaps}
use Rattle.overlay.specs.Overlay.{sides, side_crossings, overlay_events, fills, tag_above, stack, parts, subdivision, overlay, tagged}
use Rattle.boolean.specs.Operations.{minus, minus_all, difference}
use Rattle.boolean.specs.Space.{overlaid, addition, enough, no_room, space, minus_stages, minus_all_stages, difference_stages}
use Rattle.connectivity.specs.Touching.{not_above, touches_right, touches_from, touches_along, lower_at, touches_upright, touches}
use Rattle.connectivity.specs.Components.{own_numbers, relabelled, joined_numbers, joined_first, joined_all, touching_at, component_numbers}
use Rattle.extraction.specs.Shapes.{having_number, shape_of, shape_numbers}
use Rattle.extraction.specs.Extraction.{shape_encloses, Triple, triples, enclosing_stages, extraction_stages}

abbrev line : ℕ → ℕ → ℕ → ℕ → Line
line a b c d = record { x1 = pos a; y1 = pos b; x2 = pos c; y2 = pos d }

-- the base at k
abbrev base_at : ℕ → Base
base_at k = record { first = line 0 0 1 0; second = line k 0 (suc k) 1 }

-- [a, c) × [b, d)
abbrev box : ℕ → ℕ → ℕ → ℕ → Trapezoid
box a b c d = record { left = base_at a; right = base_at c; bottom = line a b c b; top = line a d c d }

abbrev one : Trapezoid → List Trapezoid
one t = t ∷ []

abbrev triple : ℕ → ℕ → ℕ → Triple
triple c b e = record { collector = c; base = b; emitter = e }

-- ---- a cell: one triple, and two differences that leave nothing
abbrev Cell : Type 0
Cell =
    (triples (one (box 0 0 12 12)) (one (box 2 2 10 10)) (one (box 4 4 6 6)) ≡ triple 0 0 0 ∷ [])
    × (extraction_stages (one (box 0 0 12 12)) (one (box 2 2 10 10)) (one (box 4 4 6 6)) ≡ overlaid 0 ∷ addition 0 ∷ overlaid 0 ∷ addition 0 ∷ [])
    × (space 4 (extraction_stages (one (box 0 0 12 12)) (one (box 2 2 10 10)) (one (box 4 4 6 6))) ≡ enough 2)

-- ---- two collectors, the first in two trapezoids that touch: their numbers are 0 and 2. In the first lie the second and the third base, which has
-- two emitters; in the second the first base.
abbrev collectors : List Trapezoid
collectors = box 0 0 6 12 ∷ box 6 0 12 12 ∷ box 20 0 32 12 ∷ []

abbrev bases : List Trapezoid
bases = box 22 2 30 10 ∷ box 1 1 5 5 ∷ box 5 7 11 11 ∷ []

abbrev emitters : List Trapezoid
emitters = box 24 4 26 6 ∷ box 6 8 8 10 ∷ box 2 2 3 3 ∷ box 9 8 10 9 ∷ []

-- by collector, then by base, then by emitter
abbrev Order : Type 0
Order =
    (shape_numbers collectors ≡ 0 ∷ 2 ∷ [])
    × (triples collectors bases emitters ≡ triple 0 1 2 ∷ triple 0 2 1 ∷ triple 0 2 3 ∷ triple 2 0 0 ∷ [])

-- two collectors that share a corner are two shapes, with a base and an emitter in each
abbrev Corner : Type 0
Corner =
    triples (box 0 0 12 12 ∷ box 12 12 24 24 ∷ []) (box 14 14 22 22 ∷ box 2 2 10 10 ∷ []) (box 4 4 6 6 ∷ box 16 16 18 18 ∷ [])
    ≡ triple 0 1 0 ∷ triple 1 0 1 ∷ []

-- ---- which must lie in which
-- an emitter in the collector, but not in the base
abbrev Beside : Type 0
Beside = triples (one (box 0 0 12 12)) (one (box 2 2 6 6)) (one (box 7 7 9 9)) ≡ []

-- a base larger than its collector, and as large as its emitter
abbrev Larger : Type 0
Larger = triples (one (box 2 2 10 10)) (one (box 0 0 12 12)) (one (box 0 0 12 12)) ≡ []

-- ---- overlays and space
-- a shape of three trapezoids and one of two apart from it: 6 overlays, in room for the two
abbrev three : List Trapezoid
three = box 0 0 1 1 ∷ box 1 0 2 1 ∷ box 2 0 3 1 ∷ []

abbrev two : List Trapezoid
two = box 0 2 1 3 ∷ box 1 2 2 3 ∷ []

abbrev ApartCounted : Type 0
ApartCounted = (space 2 (enclosing_stages three two) ≡ enough 6) × (space 1 (enclosing_stages three two) ≡ no_room 4)

-- a base around its collector: four trapezoids are left, which a room of three lacks
abbrev Around : Type 0
Around =
    (space 3 (extraction_stages (one (box 4 4 8 8)) (one (box 0 0 12 12)) (one (box 5 5 6 6))) ≡ no_room 1)
    × (space 4 (extraction_stages (one (box 4 4 8 8)) (one (box 0 0 12 12)) (one (box 5 5 6 6))) ≡ enough 2)

examples : Cell × Order × Corner × Beside × Larger × ApartCounted × Around
unfolding ◌⊕◌ ◌⊖◌ ◌⊗◌ ⊝◌ order_of before insert levels dx dy offset det numer crosses ratio meet heights right_of below each keep spans columns sweep
    common_left common_right crosses_in_common overlap_right overlap_from overlaps sides side_crossings overlay_events fills tag_above stack parts subdivision overlay tagged
    minus minus_all difference space minus_stages minus_all_stages difference_stages
    not_above touches_right touches_from touches_along lower_at touches_upright touches own_numbers relabelled joined_numbers joined_first joined_all touching_at component_numbers
    having_number shape_of shape_numbers shape_encloses triples enclosing_stages
examples = ((refl, refl, refl), (refl, refl), refl, refl, refl, (refl, refl), (refl, refl))
