-- Whether two trapezoids A and B touch: the meaning, and the test that computes it.
use Rattle.std.specs.Prelude.{Bool, not, cond, ◌&&◌, ◌||◌, ◌↔◌, ℕ, T}
use Rattle.integer.specs.Fraction.{Fraction, before}
use Rattle.geometry.specs.declared.Line.{Line}
use Rattle.geometry.specs.declared.Base.{Base}
use Rattle.geometry.specs.declared.Trapezoid.{Trapezoid}
use Rattle.geometry.specs.Positions.{position, heights, is_less, below}
use Rattle.geometry.specs.Points.{Point, IsPoint, SamePoint}
use Rattle.geometry.specs.Trapezoids.{lies_in_closed}
use Rattle.geometry.specs.Fitness.{FitFor}
use Rattle.geometry.specs.Ranges.{crossing, common_left, common_right}
use Rattle.overlay.specs.Overlaps.{Common, crosses_in_common}

-- a rational point of both closed forms
abbrev pub Shared : Trapezoid → Trapezoid → Point → Type 0
Shared A B P = IsPoint P × T (lies_in_closed P A) × T (lies_in_closed P B)

-- "Two pieces now touch exactly if their closed forms share at least two different rational points."
pub record Touch (A B : Trapezoid) : Type 0 where
  pub one : Point
  pub other : Point
  pub one_shared : Shared A B one
  pub other_shared : Shared A B other
  pub different : SamePoint one other → ⊥

-- ---- the test, where the common range has a length
-- right of p l is at or below m
unfoldable pub not_above : Fraction → Line → Line → Bool
not_above p l m = not (below p m l)

-- right of p each bottom is at or below the other's top
unfoldable pub touches_right : Trapezoid → Trapezoid → Fraction → Bool
touches_right A B p = not_above p A.bottom B.top && not_above p B.bottom A.top

-- the two lines cross inside the common range, and right of there A and B touch
unfoldable pub touches_from : Trapezoid → Trapezoid → Base → Bool
touches_from A B k = crosses_in_common A B k && touches_right A B (position k)

-- the shared points begin where the common range does, or where a bottom crosses the other's top
unfoldable pub touches_along : Trapezoid → Trapezoid → Bool
touches_along A B = touches_right A B (common_left A B) || (touches_from A B (crossing A.bottom B.top) || touches_from A B (crossing A.top B.bottom))

-- ---- the test, where the common range is one position
-- l is below m at x
unfoldable pub lower_at : Fraction → Line → Line → Bool
lower_at x l m = is_less (heights x l m)

-- at x each bottom is below the other's top and below its own: the two from bottom to top share a length
unfoldable pub touches_upright : Trapezoid → Trapezoid → Fraction → Bool
touches_upright A B x = (lower_at x A.bottom B.top && lower_at x B.bottom A.top) && (lower_at x A.bottom A.top && lower_at x B.bottom B.top)

-- ---- the whole test
unfoldable pub touches : Trapezoid → Trapezoid → Bool
touches A B = cond (before (common_left A B) (common_right A B)) (touches_along A B) (not (before (common_right A B) (common_left A B)) && touches_upright A B (common_left A B))

-- the test says yes exactly if the trapezoids touch (proofs/Touches.antt: `touches_exact`)
abbrev pub TouchesExact : Type 0
TouchesExact = (L : ℕ) (A B : Trapezoid) → FitFor L A → FitFor L B → T (touches A B) ↔ Touch A B

-- trapezoids that a rational point lies in, so that they overlap, touch (`common_touch`, there)
abbrev pub CommonTouch : Type 0
CommonTouch = (L : ℕ) (A B : Trapezoid) → FitFor L A → FitFor L B → Common A B → Touch A B
