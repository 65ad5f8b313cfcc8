-- The range that two trapezoids A and B have in common.
use Rattle.std.specs.Prelude.{cond}
use Rattle.integer.specs.Fraction.{Fraction, before}
use Rattle.geometry.specs.declared.Line.{Line}
use Rattle.geometry.specs.declared.Base.{Base}
use Rattle.geometry.specs.declared.Trapezoid.{Trapezoid}
use Rattle.geometry.specs.Positions.{position}

-- the lefter and the righter of two positions
abbrev pub lefter : Fraction → Fraction → Fraction
lefter p q = cond (before p q) p q

abbrev pub righter : Fraction → Fraction → Fraction
righter p q = cond (before p q) q p

-- from the righter of the left bases to the lefter of the right bases
unfoldable pub common_left : Trapezoid → Trapezoid → Fraction
common_left A B = righter (position A.left) (position B.left)

unfoldable pub common_right : Trapezoid → Trapezoid → Fraction
common_right A B = lefter (position A.right) (position B.right)

-- a side of A with a side of B, A's first
abbrev pub crossing : Line → Line → Base
crossing l m = record { first = l; second = m }
