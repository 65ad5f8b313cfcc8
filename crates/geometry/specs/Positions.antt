-- Horizontal positions are fractions (crate `integer`), of any size. Which of two lines is the lower at a position, and right of it.
use Rattle.std.specs.Prelude.{Bool, true, false, cond, ℤ, pos}
use Rattle.std.specs.Int.Signed.{lt_z}
use Rattle.std.specs.declared.cmp.Ordering.{Ordering}
use Rattle.std.specs.declared.cmp.Ordering.TheVariants.{Less, Equal, Greater}
use Rattle.integer.specs.Integer.{◌⊖◌, ◌⊗◌}
use Rattle.integer.specs.Compare.{order_of}
use Rattle.integer.specs.Fraction.{Fraction}
use Rattle.geometry.specs.declared.Line.{Line}
use Rattle.geometry.specs.declared.Base.{Base}
use Rattle.geometry.specs.Lines.{det, numer}

-- the sign of (height of l − height of m) at x
unfoldable pub gap : Line → Line → Fraction → ℤ
gap l m x = det l m ⊗ x.num ⊖ numer l m ⊗ x.den

-- the lines cross in one point: their slopes differ
unfoldable pub crosses : Line → Line → Bool
crosses l m = cond (lt_z (det l m) (pos 0)) true (lt_z (pos 0) (det l m))

-- numer/det
unfoldable pub ratio : Line → Line → Fraction
ratio l m = record { num = numer l m; den = det l m }

-- the position where two lines that cross do so, with a positive denominator for either sign of the determinant
unfoldable pub meet : Line → Line → Fraction
meet l m = cond (lt_z (pos 0) (det l m)) (ratio l m) (ratio m l)

-- "A base is a pair of lines that cross; it stands for the crossing's horizontal position."
abbrev pub position : Base → Fraction
position b = meet b.first b.second

-- Less where l is below m at x, Equal where they meet there
unfoldable pub heights : Fraction → Line → Line → Ordering
heights x l m = order_of (x.num ⊗ det l m) (numer l m ⊗ x.den)

-- the first order, and where that is Equal the second
abbrev pub then_by : Ordering → Ordering → Ordering
then_by Less o = Less
then_by Equal o = o
then_by Greater o = Greater

-- the order right of x, at once: by the heights at x, and where they meet by the slopes; Equal if the lines coincide
unfoldable pub right_of : Fraction → Line → Line → Ordering
right_of x l m = then_by (heights x l m) (order_of (det l m) (pos 0))

abbrev pub is_less : Ordering → Bool
is_less Less = true
is_less Equal = false
is_less Greater = false

abbrev pub is_greater : Ordering → Bool
is_greater Less = false
is_greater Equal = false
is_greater Greater = true

-- l is below m right of x
unfoldable pub below : Fraction → Line → Line → Bool
below x l m = is_less (right_of x l m)
