-- The whole touching test, by how the ends of the common range stand.
use mathlib.Core.Path.{◌≡◌, sym, ◌∙◌, ap, ap₂}
use mathlib.Core.Bool.{Bool, false}
use Rattle.integer.specs.Fraction.{Fraction, before}
use Rattle.geometry.specs.declared.Position.{Position}
use Rattle.geometry.specs.declared.Placed.{Placed}
use Rattle.geometry.specs.declared.Horizontal.{Horizontal}
use Rattle.geometry.specs.declared.Horizontal.TheVariants.{Left, Level, Right}
use Rattle.geometry.specs.Standing.{horizontal, is_left, HasHorizontal}
use Rattle.geometry.specs.Ranges.{common_left, common_right}
use Rattle.geometry.proofs.Standing.{horizontal_exact}
use Rattle.connectivity.specs.Touching.{touches_along, touches_upright, touches}
use Rattle.geometry_code.specs.Code.{fraction_of}
use Rattle.geometry_code.proofs.Branches.{answers_left}
use Rattle.trapezoids_code.specs.Placed.{CommonLeft, CommonRight}

module _ {a b : Placed} {p q : Position} (left : CommonLeft a b p) (right : CommonRight a b q) where
  abbrev lo : Fraction
  lo = fraction_of p

  abbrev hi : Fraction
  hi = fraction_of q

  stands : {h : Horizontal} → h ≡ horizontal lo hi → before (common_left a.shape b.shape) (common_right a.shape b.shape) ≡ is_left h
  stands e = sym (ap₂ before left.is right.is) ∙ answers_left left.small right.small e

  turned : {h : Horizontal} → h ≡ horizontal hi lo → before (common_right a.shape b.shape) (common_left a.shape b.shape) ≡ is_left h
  turned e = sym (ap₂ before right.is left.is) ∙ answers_left right.small left.small e

  -- what it says, either way round
  across : (h : Horizontal) → h ≡ horizontal lo hi → HasHorizontal h lo hi
  across h e = (horizontal_exact h lo hi left.small.comparable.den_not_zero right.small.comparable.den_not_zero).0 (sym e)

  back : (h : Horizontal) → HasHorizontal h hi lo → h ≡ horizontal hi lo
  back h e = sym ((horizontal_exact h hi lo right.small.comparable.den_not_zero left.small.comparable.den_not_zero).1 e)

  pub range_long : Left ≡ horizontal lo hi → {r : Bool} → r ≡ touches_along a.shape b.shape → r ≡ touches a.shape b.shape
  unfolding touches
  range_long h e = rw (stands h) e

  pub range_one : Level ≡ horizontal lo hi → {r : Bool} → r ≡ touches_upright a.shape b.shape lo → r ≡ touches a.shape b.shape
  unfolding touches
  range_one h e = rw (stands h, turned (back Level (sym (across Level h)))) (e ∙ ap (touches_upright a.shape b.shape) left.is)

  pub range_none : Right ≡ horizontal lo hi → false ≡ touches a.shape b.shape
  unfolding touches
  range_none h = rw (stands h, turned (back Left (across Right h)))
