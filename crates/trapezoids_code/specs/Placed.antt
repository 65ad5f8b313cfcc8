-- A trapezoid with the positions of its bases, and the common range of two.
use Rattle.std.specs.Prelude.{◌≡◌}
use Rattle.geometry.specs.declared.Trapezoid.{Trapezoid}
use Rattle.geometry.specs.declared.Position.{Position}
use Rattle.geometry.specs.Limit.{coordinate_limit}
use Rattle.geometry.specs.Fitness.{FitFor}
use Rattle.geometry.specs.declared.Placed.{Placed}
use Rattle.geometry.specs.Ranges.{common_left, common_right}
use Rattle.geometry_code.specs.Code.{fraction_of, SmallPosition, PositionOf}

-- a fit trapezoid with the positions of its bases
pub record PlacedAs (t : Trapezoid) (a : Placed) : Type 0 where
  pub shape : a.shape ≡ t
  pub fit : FitFor coordinate_limit a.shape
  pub left : PositionOf a.shape.left a.left
  pub right : PositionOf a.shape.right a.right

pub record Pair (a b : Placed) : Type 0 where
  pub first : PlacedAs a.shape a
  pub second : PlacedAs b.shape b

pub record CommonLeft (a b : Placed) (p : Position) : Type 0 where
  pub is : fraction_of p ≡ common_left a.shape b.shape
  pub small : SmallPosition p

pub record CommonRight (a b : Placed) (p : Position) : Type 0 where
  pub is : fraction_of p ≡ common_right a.shape b.shape
  pub small : SmallPosition p
