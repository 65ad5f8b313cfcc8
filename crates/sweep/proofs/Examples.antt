-- The definitions compute: where two bars span, the columns of their sweep, and the slabs of a column of weighted lines.
use mathlib.Core.Path.{◌≡◌, refl}
use mathlib.Core.Bool.{true, false}
use mathlib.Core.List.{List, [], ◌∷◌}
use Prim.Native.Nat.{ℕ, zero, suc}
use lib.IntN.{ℤ, pos, negsuc}
use Rattle.lists.specs.Tests.{keep}
use Rattle.integer.specs.Integer.{◌⊕◌, ◌⊖◌, ◌⊗◌, ⊝◌}
use Rattle.integer.specs.Compare.{order_of}
use Rattle.integer.specs.Fraction.{Fraction, before}
use Rattle.levels.specs.Levels.{insert, levels}
use Rattle.geometry.specs.declared.Line.{Line}
use Rattle.geometry.specs.Lines.{dx, dy, offset, det, numer}
use Rattle.geometry.specs.Positions.{heights, right_of, below}
use Rattle.sweep.specs.Sums.{sum}
use Rattle.sweep.specs.Segments.{Segment, spans}
use Rattle.sweep.specs.Columns.{Slab, slabs, up_to, column}
use Rattle.sweep.specs.Sweep.{columns, sweep}

abbrev at : ℕ → Fraction
at k = record { num = pos k; den = pos 1 }

-- the level line at a height
abbrev level : ℕ → Line
level h = record { x1 = pos 0; y1 = pos h; x2 = pos 1; y2 = pos h }

-- ---- two bars: at the height 0 over [0, 4), and at the height 1 over [2, 6)
abbrev bar : ℕ → Segment
bar zero = record { line = level 0; from = at 0; to = at 4 }
bar (suc n) = record { line = level 1; from = at 2; to = at 6 }

-- a bar spans its left end, and not its right end
at_ends : (spans (at 0) (bar 0) ≡ true) × (spans (at 3) (bar 0) ≡ true) × (spans (at 4) (bar 0) ≡ false)
unfolding ◌⊗◌ before spans
at_ends = (refl, refl, refl)

-- what a column yields here: its two events, and the bars that span it
abbrev shown : ℕ → ℕ → List ℕ → List (ℕ × ℕ × List ℕ)
shown p q es = (p, q, es) ∷ []

-- the events come in no order, and 4 twice; the first bar is in the columns from 0 and from 2, the second in those from 2 and from 4
swept : sweep bar at shown (0 ∷ 1 ∷ []) (6 ∷ 4 ∷ 0 ∷ 2 ∷ 4 ∷ []) ≡ (0, 2, 0 ∷ []) ∷ (2, 4, 0 ∷ 1 ∷ []) ∷ (4, 6, 1 ∷ []) ∷ []
unfolding ◌⊗◌ before insert levels keep spans columns sweep
swept = refl

-- ---- a column from 0 on, of level lines given as a height and a weight
abbrev Weighted : Type 0
Weighted = ℕ × ℤ

abbrev up : ℕ → Weighted
up h = (h, pos 1)

abbrev down : ℕ → Weighted
down h = (h, negsuc 0)

abbrev slab : Weighted → Weighted → Slab Weighted
slab d e = record { bottom = d; top = e }

abbrev columns_at_0 : List Weighted → List (Slab Weighted)
columns_at_0 es = column (λ (e : Weighted). level e.0) (λ (e : Weighted). e.1) (at 0) es

-- the sums 1, 0, 1, 0: two slabs
abbrev Apart : Type 0
Apart = columns_at_0 (down 3 ∷ up 0 ∷ down 1 ∷ up 2 ∷ []) ≡ slab (up 0) (down 1) ∷ slab (up 2) (down 3) ∷ []

-- the sums 1, 2, 1, 0: one slab
abbrev Nested : Type 0
Nested = columns_at_0 (up 0 ∷ up 1 ∷ down 2 ∷ down 3 ∷ []) ≡ slab (up 0) (down 3) ∷ []

-- two that coincide are one group: the sums 1, 1, 0
abbrev Grouped : Type 0
Grouped = columns_at_0 (up 0 ∷ down 2 ∷ up 2 ∷ down 3 ∷ []) ≡ slab (up 0) (down 3) ∷ []

in_slabs : Apart × Nested × Grouped
unfolding ◌⊕◌ ◌⊖◌ ◌⊗◌ ⊝◌ order_of before insert levels dx dy offset det numer heights right_of below sum slabs up_to column
in_slabs = (refl, refl, refl)
