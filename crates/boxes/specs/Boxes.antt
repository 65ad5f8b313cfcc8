-- The box of a trapezoid, and the tests by which two boxes have nothing in common.
use Rattle.std.specs.Prelude.{◌≡◌, Bool, cond, ◌||◌, List, ◌⊎◌, ℕ, ℤ, pos, ◌≤ℤ◌, ◌<ℤ◌}
use Rattle.std.specs.Int.Signed.{lt_z, le_z}
use Rattle.integer.specs.declared.Int.{Int}
use Rattle.integer.specs.Integer.{◌⊕◌, ◌⊗◌, ⊝◌}
use Rattle.geometry.specs.declared.Line.{Line}
use Rattle.geometry.specs.declared.Trapezoid.{Trapezoid}
use Rattle.geometry.specs.Limit.{on_grid}
use Rattle.geometry.specs.Lines.{dx, dy, offset}
use Rattle.geometry.specs.Positions.{position}
use Rattle.geometry.specs.Points.{Point, IsPoint}
use Rattle.geometry.specs.Trapezoids.{LiesInLayer}
use Rattle.boxes.specs.declared.Box.{Box}
use Rattle.boxes.specs.Whole.{floor, ceiling}

-- the largest limit that boxes are made for; their arithmetic is within 64 bits for it
abbrev pub largest_limit : ℕ
largest_limit = 524288

-- A line's height is worked out at whole positions from −2³⁰ to 2³⁰, where it is less than 2⁵¹. Past them the box has no end upward
-- or downward, which 2⁵¹ and −2⁵¹ stand for.
abbrev pub near : ℕ
near = 1073741824

abbrev pub endless : ℕ
endless = 2251799813685248

-- the height at x of the line with the numbers dx, dy and offset, rounded down and up
unfoldable pub height_below : ℤ → ℤ → ℤ → ℤ → ℤ
height_below w h o x = cond (on_grid near x) (floor (h ⊗ x ⊕ o) w) (⊝ (pos endless))

unfoldable pub height_above : ℤ → ℤ → ℤ → ℤ → ℤ
height_above w h o x = cond (on_grid near x) (ceiling (h ⊗ x ⊕ o) w) (pos endless)

-- a falling line is lowest at the right end, any other at the left
unfoldable pub lowest : Line → ℤ → ℤ → ℤ
lowest l left right = height_below (dx l) (dy l) (offset l) (cond (lt_z (dy l) (pos 0)) right left)

-- and highest at the other
unfoldable pub highest : Line → ℤ → ℤ → ℤ
highest l left right = height_above (dx l) (dy l) (offset l) (cond (lt_z (dy l) (pos 0)) left right)

-- a number as a function holds it
abbrev pub int : ℤ → Int
int z = record { v = z }

-- the left base rounded down, and the right base rounded up
unfoldable pub left_end : Trapezoid → ℤ
left_end t = floor (position t.left).num (position t.left).den

unfoldable pub right_end : Trapezoid → ℤ
right_end t = ceiling (position t.right).num (position t.right).den

-- from the one to the other, and from the lowest of the bottom between them to the highest of the top
unfoldable pub box_of : Trapezoid → Box
box_of t =
    record {
      left = int (left_end t);
      right = int (right_end t);
      bottom = int (lowest t.bottom (left_end t) (right_end t));
      top = int (highest t.top (left_end t) (right_end t));
    }

-- one ends before the other begins, by a test of "before"
unfoldable pub boxes_apart_by : (ℤ → ℤ → Bool) → Box → Box → Bool
boxes_apart_by before e f =
    before f.right.v e.left.v
    || (before e.right.v f.left.v || (before f.top.v e.bottom.v || before e.top.v f.bottom.v))

-- the boxes share no point, their edges counted
abbrev pub boxes_apart : Box → Box → Bool
boxes_apart = boxes_apart_by lt_z

-- they share no point inside: edges may meet
abbrev pub boxes_disjoint : Box → Box → Bool
boxes_disjoint = boxes_apart_by le_z

-- ---- the points of a box
-- P lies in it, and on neither its right nor its top edge; an end that is `endless` says nothing
pub record Inside (P : Point) (e : Box) : Type 0 where
  pub left : e.left.v ⊗ P.D ≤ℤ P.X
  pub right : P.X <ℤ e.right.v ⊗ P.D
  pub bottom : (e.bottom.v ≡ ⊝ (pos endless)) ⊎ (e.bottom.v ⊗ P.D ≤ℤ P.Y)
  pub top : (e.top.v ≡ pos endless) ⊎ (P.Y <ℤ e.top.v ⊗ P.D)

-- neither end is endless on the wrong side
pub record Ends (e : Box) : Type 0 where
  pub low : e.bottom.v <ℤ pos endless
  pub high : ⊝ (pos endless) <ℤ e.top.v

-- every rational point of a list of trapezoids lies in it
pub record Encloses (e : Box) (ts : List Trapezoid) : Type 0 where
  pub ends : Ends e
  pub points : (P : Point) → IsPoint P → LiesInLayer P ts → Inside P e
