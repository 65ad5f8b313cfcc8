-- Placed trapezoids, and the common range of two, branch by branch.
use mathlib.Core.Path.{◌≡◌, ◌∙◌, refl}
use mathlib.Core.Bool.{true, false}
use Rattle.integer.specs.Fraction.{before}
use Rattle.geometry.specs.declared.Trapezoid.{Trapezoid}
use Rattle.geometry.specs.Positions.{position}
use Rattle.geometry.specs.declared.Placed.{Placed}
use Rattle.geometry.specs.Ranges.{common_left, common_right}
use Rattle.geometry_code.specs.Code.{fraction_of}
use Rattle.trapezoids_code.specs.Placed.{PlacedAs, Pair, CommonLeft, CommonRight}

-- ---- the common range
module _ (a b : Placed) (h : Pair a b) where
  lefts : before (position a.shape.left) (position b.shape.left) ≡ before (fraction_of a.left) (fraction_of b.left)
  lefts = rw (h.first.left.is, h.second.left.is)

  rights : before (position a.shape.right) (position b.shape.right) ≡ before (fraction_of a.right) (fraction_of b.right)
  rights = rw (h.first.right.is, h.second.right.is)

  pub left_second : before (fraction_of a.left) (fraction_of b.left) ≡ true → CommonLeft a b b.left
  unfolding common_left
  left_second e = record { is = h.second.left.is ∙ rw (lefts ∙ e); small = h.second.left.small }

  pub left_first : before (fraction_of a.left) (fraction_of b.left) ≡ false → CommonLeft a b a.left
  unfolding common_left
  left_first e = record { is = h.first.left.is ∙ rw (lefts ∙ e); small = h.first.left.small }

  pub right_first : before (fraction_of a.right) (fraction_of b.right) ≡ true → CommonRight a b a.right
  unfolding common_right
  right_first e = record { is = h.first.right.is ∙ rw (rights ∙ e); small = h.first.right.small }

  pub right_second : before (fraction_of a.right) (fraction_of b.right) ≡ false → CommonRight a b b.right
  unfolding common_right
  right_second e = record { is = h.second.right.is ∙ rw (rights ∙ e); small = h.second.right.small }

-- a placed trapezoid by its own shape
pub placed_own : {t : Trapezoid} {a : Placed} → PlacedAs t a → PlacedAs a.shape a
placed_own h = record { shape = refl; fit = h.fit; left = h.left; right = h.right }
