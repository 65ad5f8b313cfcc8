-- The definitions compute: the paper's cases (a) and (e), ties of events and of sides in both orders of A and B, a tip on a side, 15 parts, parts of B only, and the first overlap of a layer.
use mathlib.Core.Path.{◌≡◌, refl}
use mathlib.Core.List.{List, [], ◌∷◌}
use Prim.Native.Nat.{ℕ, suc}
use lib.IntN.{pos, negsuc}
use Rattle.lists.specs.Tests.{keep}
use Rattle.integer.specs.Integer.{◌⊕◌, ◌⊖◌, ◌⊗◌, ⊝◌}
use Rattle.integer.specs.Compare.{order_of}
use Rattle.integer.specs.Fraction.{before}
use Rattle.levels.specs.Levels.{insert, levels}
use Rattle.geometry.specs.declared.Line.{Line}
use Rattle.geometry.specs.declared.Base.{Base}
use Rattle.geometry.specs.declared.Trapezoid.{Trapezoid}
use Rattle.geometry.specs.Lines.{dx, dy, offset, det, numer}
use Rattle.geometry.specs.Positions.{crosses, ratio, meet, heights, right_of, below}
use Rattle.geometry.specs.Ranges.{crossing, common_left, common_right}
use Rattle.sweep.specs.Segments.{spans}
use Rattle.sweep.specs.Sweep.{columns, sweep}
use Rattle.overlay.specs.Overlaps.{crosses_in_common, overlap_right, overlap_from, overlaps, overlap_past, first_overlap}
use Rattle.overlay.specs.Overlay.{Part, sides, side_crossings, overlay_events, fills, tag_above, stack, parts, subdivision, overlay, tagged}
use Rattle.std.specs.Prelude.{Ok}
use Rattle.geometry.specs.Refusals.{refused_by}

abbrev line : ℕ → ℕ → ℕ → ℕ → Line
line a b c d = record { x1 = pos a; y1 = pos b; x2 = pos c; y2 = pos d }

-- the base at k, and the same in other words
abbrev upright : ℕ → Base
upright k = record { first = line 0 0 1 0; second = line k 0 (suc k) 1 }

abbrev renamed : ℕ → Base
renamed k = record { first = line k 0 (suc k) 1; second = line k 0 (suc k) 2 }

-- [a, c) × [b, d)
abbrev box : ℕ → ℕ → ℕ → ℕ → Trapezoid
box a b c d = record { left = upright a; right = upright c; bottom = line a b c b; top = line a d c d }

abbrev part_of : ℕ → Base → Base → Line → Line → Part
part_of n p q l m = record { tag = n; trapezoid = record { left = p; right = q; bottom = l; top = m } }

abbrev tags : List Part → List ℕ
tags [] = []
tags (s ∷ ss) = s.tag ∷ tags ss

-- (a): Q cut with R has the tags 1, 1, 3, 2, 2
abbrev CaseA : Type 0
CaseA = tags (overlay (box 0 0 4 4) (box 2 2 6 6)) ≡ 1 ∷ 1 ∷ 3 ∷ 2 ∷ 2 ∷ []

-- (e): Q and [4, 8) × [0, 4) touch, and stay whole
abbrev CaseE : Type 0
CaseE = overlay (box 0 0 4 4) (box 4 0 8 4) ≡ record { tag = 1; trapezoid = box 0 0 4 4 } ∷ record { tag = 2; trapezoid = box 4 0 8 4 } ∷ []

-- "Equal stops take the first name of: A left, A right, B left, B right, .."; "Coinciding sides take A's line": a square and the same in
-- other words leave A's words, in either order
abbrev square : Trapezoid
square = box 0 0 4 4

abbrev restated : Trapezoid
restated = record { left = renamed 0; right = renamed 4; bottom = line 0 0 8 0; top = line 0 4 8 4 }

abbrev Equal : Type 0
Equal = overlay square restated ≡ record { tag = 3; trapezoid = square } ∷ []

abbrev EqualTurned : Type 0
EqualTurned = overlay restated square ≡ record { tag = 3; trapezoid = restated } ∷ []

-- "In every difference, and in disjointing, the piece in hand is A in the pair cut": what is left of A (tag 1) has A's name where its base is
-- level with B's, and "a crossing names A's side first". Where the bottoms coincide A's line is taken; it bounds parts of both (tag 3) only.
abbrev sloped : Trapezoid
sloped = record { left = renamed 0; right = renamed 4; bottom = line 0 0 8 0; top = line 0 2 4 6 }

abbrev tops : Base
tops = crossing (line 0 4 4 4) (line 0 2 4 6)

abbrev Remainder : Type 0
Remainder =
    overlay square sloped
    ≡ part_of 3 (upright 0) tops (line 0 0 4 0) (line 0 2 4 6)
    ∷ part_of 1 (upright 0) tops (line 0 2 4 6) (line 0 4 4 4)
    ∷ part_of 3 tops (upright 4) (line 0 0 4 0) (line 0 4 4 4)
    ∷ part_of 2 tops (upright 4) (line 0 4 4 4) (line 0 2 4 6)
    ∷ []

-- the same operands in the other order
abbrev tops_turned : Base
tops_turned = crossing (line 0 2 4 6) (line 0 4 4 4)

abbrev RemainderTurned : Type 0
RemainderTurned =
    overlay sloped square
    ≡ part_of 3 (renamed 0) tops_turned (line 0 0 8 0) (line 0 2 4 6)
    ∷ part_of 2 (renamed 0) tops_turned (line 0 2 4 6) (line 0 4 4 4)
    ∷ part_of 3 tops_turned (renamed 4) (line 0 0 8 0) (line 0 4 4 4)
    ∷ part_of 1 tops_turned (renamed 4) (line 0 4 4 4) (line 0 2 4 6)
    ∷ []

-- ".., bottom-bottom, A bottom with B top, A top with B bottom, top-top": the bottoms cross at the position where the tops do, and the event
-- has the name of the bottoms
abbrev bottoms : Base
bottoms = crossing (line 0 2 4 2) (line 0 0 4 4)

abbrev Level : Type 0
Level =
    overlay (box 0 2 4 6) (record { left = upright 0; right = upright 4; bottom = line 0 0 4 4; top = line 0 4 4 8 })
    ≡ part_of 2 (upright 0) bottoms (line 0 0 4 4) (line 0 2 4 2)
    ∷ part_of 3 (upright 0) bottoms (line 0 2 4 2) (line 0 4 4 8)
    ∷ part_of 1 (upright 0) bottoms (line 0 4 4 8) (line 0 6 4 6)
    ∷ part_of 1 bottoms (upright 4) (line 0 2 4 2) (line 0 0 4 4)
    ∷ part_of 3 bottoms (upright 4) (line 0 0 4 4) (line 0 6 4 6)
    ∷ part_of 2 bottoms (upright 4) (line 0 6 4 6) (line 0 4 4 8)
    ∷ []

-- the tip of B lies on the top of A: three sides meet at one event
abbrev tip : Base
tip = crossing (line 2 4 6 2) (line 2 4 6 6)

abbrev Tip : Type 0
Tip =
    overlay (box 0 0 4 4) (record { left = tip; right = upright 6; bottom = line 2 4 6 2; top = line 2 4 6 6 })
    ≡ part_of 1 (upright 0) tip (line 0 0 4 0) (line 0 4 4 4)
    ∷ part_of 1 tip (upright 4) (line 0 0 4 0) (line 2 4 6 2)
    ∷ part_of 3 tip (upright 4) (line 2 4 6 2) (line 0 4 4 4)
    ∷ part_of 2 tip (upright 4) (line 0 4 4 4) (line 2 4 6 6)
    ∷ part_of 2 (upright 4) (upright 6) (line 2 4 6 2) (line 2 4 6 6)
    ∷ []

-- all four pairs of sides cross, one after the other: 15 arise
abbrev falling : Trapezoid
falling = record { left = upright 0; right = upright 10; bottom = line 0 10 10 0; top = line 0 12 10 2 }

abbrev rising : Trapezoid
rising = record { left = upright 1; right = upright 11; bottom = line 1 0 11 10; top = line 1 4 11 14 }

abbrev Fifteen : Type 0
Fifteen =
    tags (overlay falling rising)
    ≡ 1 ∷ 2 ∷ 1 ∷ 2 ∷ 3 ∷ 1 ∷ 2 ∷ 3 ∷ 2 ∷ 1 ∷ 3 ∷ 2 ∷ 1 ∷ 2 ∷ 2 ∷ []

-- ---- B only
-- The parts with tag 2. No call shows them: in B − A the two change places, and events and coinciding sides have B's names and lines.
abbrev second : Trapezoid → Trapezoid → List Trapezoid
second A B = tagged 2 (overlay A B)

abbrev between : Base → Base → Line → Line → Trapezoid
between p q l m = record { left = p; right = q; bottom = l; top = m }

-- (a): in [2, 4) what is over the top of Q, in [4, 6) all of R
abbrev SecondOfBoxes : Type 0
SecondOfBoxes =
    second square (box 2 2 6 6)
    ≡ between (upright 2) (upright 4) (line 0 4 4 4) (line 2 6 6 6)
    ∷ between (upright 4) (upright 6) (line 2 2 6 2) (line 2 6 6 6)
    ∷ []

-- B begins where Q ends, and its base is named by other lines: whole, with its own name
abbrev beside : Trapezoid
beside = between (crossing (line 0 4 4 0) (line 4 0 5 1)) (upright 8) (line 4 1 8 0) (line 4 2 8 4)

abbrev SecondBeside : Type 0
SecondBeside = second square beside ≡ beside ∷ []

-- the bottom of B is the top of Q, by other points: whole, with its own line
abbrev above : Trapezoid
above = between (upright 2) (upright 6) (line 0 4 8 4) (line 2 8 6 8)

abbrev SecondAbove : Type 0
SecondAbove = second square above ≡ above ∷ []

-- A inside B: left of A, below it, above it, right of it
abbrev SecondAround : Type 0
SecondAround =
    second (box 1 1 3 3) square
    ≡ between (upright 0) (upright 1) (line 0 0 4 0) (line 0 4 4 4)
    ∷ between (upright 1) (upright 3) (line 0 0 4 0) (line 1 1 3 1)
    ∷ between (upright 1) (upright 3) (line 1 3 3 3) (line 0 4 4 4)
    ∷ between (upright 3) (upright 4) (line 0 0 4 0) (line 0 4 4 4)
    ∷ []

-- the bases are level: one column with A's names
abbrev other_four : Base
other_four = crossing (line 0 4 4 0) (line 0 0 1 0)

abbrev SecondLevel : Type 0
SecondLevel =
    second square (between (renamed 0) other_four (line 0 2 4 2) (line 0 6 4 6))
    ≡ between (upright 0) (upright 4) (line 0 4 4 4) (line 0 6 4 6)
    ∷ []

-- the bottoms coincide in [2, 4), where A's line is taken; in [4, 6) only the range of B holds the column, so B has its own bottom
abbrev SecondLow : Type 0
SecondLow =
    second square (between (upright 2) (upright 6) (line 0 0 8 0) (line 2 2 6 2))
    ≡ between (upright 4) (upright 6) (line 0 0 8 0) (line 2 2 6 2)
    ∷ []

-- both tips at (0, 0): one column with A's names, and B over the top of A
abbrev first_tip : Base
first_tip = crossing (line 0 0 4 0) (line 0 0 4 2)

abbrev second_tip : Base
second_tip = crossing (line 0 0 4 1) (line 0 0 4 4)

abbrev SecondTips : Type 0
SecondTips =
    second (between first_tip (upright 4) (line 0 0 4 0) (line 0 0 4 2)) (between second_tip other_four (line 0 0 4 1) (line 0 0 4 4))
    ≡ between first_tip (upright 4) (line 0 0 4 2) (line 0 0 4 4)
    ∷ []

-- B narrows into Q: the bottoms and the tops cross at 2, one event with the name of the bottoms, A's first; B only is below Q and above it
abbrev narrowing : Line
narrowing = record { x1 = pos 0; y1 = negsuc 0; x2 = pos 4; y2 = pos 1 }

abbrev entry : Base
entry = crossing (line 0 0 4 0) narrowing

abbrev SecondWedge : Type 0
SecondWedge =
    second square (between (upright 1) (upright 3) narrowing (line 0 5 4 3))
    ≡ between (upright 1) entry narrowing (line 0 0 4 0)
    ∷ between (upright 1) entry (line 0 4 4 4) (line 0 5 4 3)
    ∷ []

-- B runs from above Q to below it: events at 1 (A's top with B's bottom), 2 (the bottoms, and the tops), 3 (A's bottom with B's top)
abbrev high_entry : Base
high_entry = crossing (line 0 4 4 4) (line 1 4 2 0)

abbrev bottoms_cross : Base
bottoms_cross = crossing (line 0 0 4 0) (line 1 4 2 0)

abbrev low_exit : Base
low_exit = crossing (line 0 0 4 0) (line 2 4 3 0)

abbrev SecondSteep : Type 0
SecondSteep =
    second square (between (upright 0) (upright 4) (line 1 4 2 0) (line 2 4 3 0))
    ≡ between (upright 0) high_entry (line 1 4 2 0) (line 2 4 3 0)
    ∷ between high_entry bottoms_cross (line 0 4 4 4) (line 2 4 3 0)
    ∷ between bottoms_cross low_exit (line 1 4 2 0) (line 0 0 4 0)
    ∷ between low_exit (upright 4) (line 1 4 2 0) (line 2 4 3 0)
    ∷ []

examples : CaseA × CaseE × Equal × EqualTurned × Remainder × RemainderTurned × Level × Tip × Fifteen
unfolding ◌⊕◌ ◌⊖◌ ◌⊗◌ ⊝◌ order_of before insert levels dx dy offset det numer crosses ratio meet heights right_of below keep spans columns sweep
    common_left common_right crosses_in_common overlap_right overlap_from overlaps sides side_crossings overlay_events fills tag_above stack parts subdivision overlay
examples = (refl, refl, refl, refl, refl, refl, refl, refl, refl)

seconds : SecondOfBoxes × SecondBeside × SecondAbove × SecondAround × SecondLevel × SecondLow × SecondTips × SecondWedge × SecondSteep
unfolding ◌⊕◌ ◌⊖◌ ◌⊗◌ ⊝◌ order_of before insert levels dx dy offset det numer crosses ratio meet heights right_of below keep spans columns sweep
    common_left common_right crosses_in_common overlap_right overlap_from overlaps sides side_crossings overlay_events fills tag_above stack parts subdivision overlay tagged
seconds = (refl, refl, refl, refl, refl, refl, refl, refl, refl)

-- row 13, "taken by its later piece and then its earlier", places numbered on from 5: the pairs are 1 with 2 and 0 with 3; squares side by side pass
abbrev Searched : Type 0
Searched =
    (first_overlap 5 (box 0 0 4 4 ∷ box 4 0 8 4 ∷ box 6 2 9 3 ∷ box 2 2 4 6 ∷ []) ≡ refused_by 13 7)
    × (first_overlap 5 (box 0 0 4 4 ∷ box 4 0 8 4 ∷ box 0 4 8 8 ∷ []) ≡ Ok tt)

searched : Searched
unfolding ◌⊕◌ ◌⊖◌ ◌⊗◌ ⊝◌ order_of before dx dy offset det numer crosses ratio meet heights right_of below common_left common_right crosses_in_common overlap_right overlap_from overlaps overlap_past
searched = (refl, refl)
