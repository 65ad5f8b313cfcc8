-- "The cut of pieces A and B": the overlay, a list of trapezoids with tags.
use Rattle.std.specs.Prelude.{Bool, true, false, not, cond, ◌&&◌, List, [], ◌∷◌, ℕ, eqb}
use Rattle.lists.specs.Tests.{keep}
use Rattle.integer.specs.Fraction.{Fraction}
use Rattle.levels.specs.Levels.{levels}
use Rattle.geometry.specs.declared.Line.{Line}
use Rattle.geometry.specs.declared.Base.{Base}
use Rattle.geometry.specs.declared.Trapezoid.{Trapezoid}
use Rattle.geometry.specs.Positions.{position, below}
use Rattle.geometry.specs.Ranges.{crossing}
use Rattle.sweep.specs.Segments.{Segment, spans}
use Rattle.sweep.specs.Columns.{lower}
use Rattle.sweep.specs.Sweep.{sweep}
use Rattle.overlay.specs.Overlaps.{crosses_in_common, overlaps}

-- a trapezoid of the overlay
pub record Part : Type 0 where
  pub tag : ℕ
  pub trapezoid : Trapezoid

-- "tagged 1 (A only), 2 (B only) or 3 (both)", by whether it lies in A and whether in B; 0 in neither
abbrev pub tag_of : Bool → Bool → ℕ
tag_of true true = 3
tag_of true false = 1
tag_of false true = 2
tag_of false false = 0

-- ---- sides and events
-- a side of t, over the range of t
abbrev pub along : Trapezoid → Line → Segment
along t l = record { line = l; from = position t.left; to = position t.right }

-- x is in the range of t
abbrev pub in_range : Fraction → Trapezoid → Bool
in_range x t = spans x (along t t.bottom)

-- "Coinciding sides take A's line": of sides that coincide the first in this list is taken
unfoldable pub sides : Trapezoid → Trapezoid → List Segment
sides A B = along A A.bottom ∷ along A A.top ∷ along B B.bottom ∷ along B B.top ∷ []

-- each side of A with each side of B
unfoldable pub side_crossings : Trapezoid → Trapezoid → List Base
side_crossings A B = crossing A.bottom B.bottom ∷ crossing A.bottom B.top ∷ crossing A.top B.bottom ∷ crossing A.top B.top ∷ []

-- "stops are the four bases and the crossings of a side of A with a side of B strictly inside the common range"; "Equal stops take the first
-- name of: A left, A right, B left, B right, bottom-bottom, A bottom with B top, A top with B bottom, top-top; a crossing names A's side first"
unfoldable pub overlay_events : Trapezoid → Trapezoid → List Base
overlay_events A B = A.left ∷ A.right ∷ B.left ∷ B.right ∷ keep (crosses_in_common A B) (side_crossings A B)

-- ---- a column
abbrev pub segment_line : Segment → Line
segment_line s = s.line

-- right of p what is just above the line g lies in t: p is in the range of t, and g is at or above the bottom and below the top
unfoldable pub fills : Fraction → Trapezoid → Line → Bool
fills p t g = in_range p t && (not (below p g t.bottom) && below p g t.top)

module _ (A B : Trapezoid) where
  -- the tag of what is just above g right of p
  unfoldable pub tag_above : Fraction → Segment → ℕ
  tag_above p g = tag_of (fills p A g.line) (fills p B g.line)

  -- from the event p to the event q, and from the group g to the group h
  abbrev pub part : Base → Base → Segment → Segment → Part
  part p q g h = record { tag = tag_above (position p) g; trapezoid = record { left = p; right = q; bottom = g.line; top = h.line } }

  -- "Pieces go bottom to top, tagged 1 (A only), 2 (B only) or 3 (both); parts of neither are dropped": one from each group to the next
  unfoldable pub stack : Base → Base → List Segment → List Part
  stack p q [] = []
  stack p q (g ∷ []) = []
  stack p q (g ∷ h ∷ gs) = cond (eqb (tag_above (position p) g) 0) (stack p q (h ∷ gs)) (part p q g h ∷ stack p q (h ∷ gs))

  -- "In a column only the sides of pieces whose range holds it divide it": ss are those sides, put in order right of p
  unfoldable pub parts : Base → Base → List Segment → List Part
  parts p q ss = stack p q (levels (lower segment_line (position p)) ss)

  -- "Columns go left to right."
  unfoldable pub subdivision : List Part
  subdivision = sweep (λ (s : Segment). s) position parts (sides A B) (overlay_events A B)

-- "with no rational point in both, the answer is A tagged 1, then B tagged 2, whole"
unfoldable pub overlay : Trapezoid → Trapezoid → List Part
overlay A B = cond (overlaps A B) (subdivision A B) (record { tag = 1; trapezoid = A } ∷ record { tag = 2; trapezoid = B } ∷ [])

-- the trapezoids with the tag n, in order ("its tag 1 pieces in order")
unfoldable pub tagged : ℕ → List Part → List Trapezoid
tagged n [] = []
tagged n (s ∷ ss) = cond (eqb s.tag n) (s.trapezoid ∷ tagged n ss) (tagged n ss)
