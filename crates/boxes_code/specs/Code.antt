-- What the functions require, and boxes in a slice, four words each.
use Rattle.std.specs.Prelude.{cond, ◌≡◌, Bool, true, false, ◌&&◌, List, [], ◌∷◌, ℕ, ◌+◌, ◌*◌, ◌<◌, ◌≤◌, leb, length, get_or, ℤ, pos, nat_abs, ◌<ℤ◌}
use Rattle.std.specs.Int.Signed.{lt_z}
use Rattle.integer.specs.Integer.{◌⊕◌, ◌⊗◌}
use Rattle.records.specs.Limits.{memory_width}
use Rattle.records.specs.Records.{record_at, count}
use Rattle.geometry.specs.declared.Line.{Line}
use Rattle.geometry.specs.declared.Coefficients.{Coefficients}
use Rattle.geometry.specs.declared.Placed.{Placed}
use Rattle.geometry.specs.Limit.{on_grid}
use Rattle.geometry.specs.Lines.{dx, dy, offset}
use Rattle.geometry.specs.Fitness.{FitLayer}
use Rattle.geometry.specs.Trapezoids.{trapezoid_codec}
use Rattle.boxes.specs.declared.Box.{Box}
use Rattle.boxes.specs.Boxes.{largest_limit, near, int, box_of}
use Rattle.trapezoids_code.specs.Placed.{PlacedAs}

-- a line's three numbers, as a height at a whole position takes them
pub record Sizes (k : Coefficients) : Type 0 where
  pub rightward : pos 0 <ℤ k.dx.v
  pub dy_small : nat_abs k.dy.v ≤ 2 * largest_limit
  pub offset_small : nat_abs k.offset.v ≤ 2 * (largest_limit * largest_limit)

-- a line's height by a rounding of fractions, at one whole position if it falls and else at the other; far out, `far`
abbrev pub end_height : (ℤ → ℤ → ℤ) → ℤ → Line → ℤ → ℤ → ℤ
end_height round far l falling other = height_at (cond (lt_z (dy l) (pos 0)) falling other)
  where
    height_at : ℤ → ℤ
    height_at x = cond (on_grid near x) (round (dy l ⊗ x ⊕ offset l) (dx l)) far

-- ---- slices
-- words of a box: left, right, bottom, top
abbrev pub box_width : ℕ
box_width = 4

abbrev pub box_words : Box → List ℤ
box_words e = e.left.v ∷ e.right.v ∷ e.bottom.v ∷ e.top.v ∷ []

-- box number i
unfoldable pub box_at : List ℤ → ℕ → Box
box_at d i =
    record {
      left = int (get_or d (box_width * i) (pos 0));
      right = int (get_or d (box_width * i + 1) (pos 0));
      bottom = int (get_or d (box_width * i + 2) (pos 0));
      top = int (get_or d (box_width * i + 3) (pos 0));
    }

-- d holds the box of each of the first n trapezoids of the words s
pub record FirstBoxes (n : ℕ) (s d : List ℤ) : Type 0 where
  pub room : box_width * count trapezoid_codec s ≤ length d
  pub each : (i : ℕ) → i < n → box_at d i ≡ box_of (record_at trapezoid_codec s i)

-- of each trapezoid of them
abbrev pub BoxesOf : List ℤ → List ℤ → Type 0
BoxesOf s d = FirstBoxes (count trapezoid_codec s) s d

-- ---- what a function that goes by boxes takes
-- a trapezoid with the positions of its bases, and its box
pub record BoxedAs (a : Placed) (e : Box) : Type 0 where
  pub placed : PlacedAs a.shape a
  pub box : e ≡ box_of a.shape

-- a layer of fit trapezoids, and the box of each
pub record BoxedLayer (s d : List ℤ) : Type 0 where
  pub layer : FitLayer s
  pub boxes : BoxesOf s d

-- the layer, and room for the boxes
pub record RoomForBoxes (s d : List ℤ) : Type 0 where
  pub layer : FitLayer s
  pub room : box_width * count trapezoid_codec s ≤ length d

-- ---- the next box that is near, by one of the tests of two boxes
-- the boxes of the words d from number j on and before number r are apart from e; r is at most i
pub record Skipped (apart : Box → Box → Bool) (e : Box) (d : List ℤ) (j i r : ℕ) : Type 0 where
  pub from : j ≤ r
  pub upto : r ≤ i
  pub passed : (k : ℕ) → j ≤ k → k < r → apart e (box_at d k) ≡ true

-- and box number r is not, or r is i
pub record NextBox (apart : Box → Box → Bool) (e : Box) (d : List ℤ) (j i r : ℕ) : Type 0 where
  pub skipped : Skipped apart e d j i r
  pub found : r < i → apart e (box_at d r) ≡ false

-- ---- small layers
-- the words of 16 trapezoids
abbrev pub small_words : ℕ
small_words = memory_width * 16

-- neither layer has more
abbrev pub both_small : List ℤ → List ℤ → Bool
both_small s t = leb (length s) small_words && leb (length t) small_words
