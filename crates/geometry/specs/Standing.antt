-- Left, level or right (paper 02, request (ii)): how one base stands to another, "with its exact meaning for either sign of both
-- determinants, which are never zero". A base is compared by its numerator and its determinant, a position by n and d of n/d.
use Rattle.std.specs.Prelude.{◌≡◌, Bool, true, false, not, cond, ◌↔◌, T, ℤ, pos, ◌<ℤ◌}
use Rattle.std.specs.Int.Signed.{lt_z}
use Rattle.std.specs.declared.cmp.Ordering.{Ordering}
use Rattle.std.specs.declared.cmp.Ordering.TheVariants.{Less, Equal, Greater}
use Rattle.integer.specs.Integer.{◌⊗◌}
use Rattle.integer.specs.Fraction.{Fraction, Proper, before, order}
use Rattle.geometry.specs.declared.Base.{Base}
use Rattle.geometry.specs.declared.Horizontal.{Horizontal}
use Rattle.geometry.specs.declared.Horizontal.TheVariants.{Left, Level, Right}
use Rattle.geometry.specs.Positions.{gap, crosses, ratio}

-- ---- the test
-- by the order of two products
abbrev pub across : Ordering → Horizontal
across Less = Left
across Equal = Level
across Greater = Right

-- of two numbers that are not 0: both negative, or neither
unfoldable pub one_sign : ℤ → ℤ → Bool
one_sign d e = cond (lt_z d (pos 0)) (lt_z e (pos 0)) (not (lt_z e (pos 0)))

-- n/d against n'/d': by the products n·d' and n'·d in this order where d and d' have one sign, and in the other where their signs differ
unfoldable pub horizontal : Fraction → Fraction → Horizontal
horizontal p q = across (cond (one_sign p.den q.den) (order p q) (order q p))

-- of two bases, by their numerators and determinants
abbrev pub base_ratio : Base → Fraction
base_ratio b = ratio b.first b.second

abbrev pub standing : Base → Base → Horizontal
standing b c = horizontal (base_ratio b) (base_ratio c)

abbrev pub is_left : Horizontal → Bool
is_left Left = true
is_left Level = false
is_left Right = false

-- ---- the meaning over whole numbers
abbrev pub NotZero : ℤ → Type 0
NotZero d = d ≡ pos 0 → ⊥

-- n/d < n'/d' as rational numbers, for each combination of signs
pub record LessThan (p q : Fraction) : Type 0 where
  pub both_positive : pos 0 <ℤ p.den → pos 0 <ℤ q.den → p.num ⊗ q.den <ℤ q.num ⊗ p.den
  pub both_negative : p.den <ℤ pos 0 → q.den <ℤ pos 0 → p.num ⊗ q.den <ℤ q.num ⊗ p.den
  pub first_negative : p.den <ℤ pos 0 → pos 0 <ℤ q.den → q.num ⊗ p.den <ℤ p.num ⊗ q.den
  pub second_negative : pos 0 <ℤ p.den → q.den <ℤ pos 0 → q.num ⊗ p.den <ℤ p.num ⊗ q.den

abbrev pub HasHorizontal : Horizontal → Fraction → Fraction → Type 0
HasHorizontal Left p q = LessThan p q
HasHorizontal Level p q = p.num ⊗ q.den ≡ q.num ⊗ p.den
HasHorizontal Right p q = LessThan q p

-- ---- the same of positions: where the lines of a base meet
abbrev pub MeetAt : Base → Fraction → Type 0
MeetAt b x = Proper x × (gap b.first b.second x ≡ pos 0)

-- wherever the first base's lines meet is left of wherever the second's do
abbrev pub LeftOf : Base → Base → Type 0
LeftOf b c = (x y : Fraction) → MeetAt b x → MeetAt c y → T (before x y)

-- and is the same position
abbrev pub LevelWith : Base → Base → Type 0
LevelWith b c = (x y : Fraction) → MeetAt b x → MeetAt c y → x.num ⊗ y.den ≡ y.num ⊗ x.den

abbrev pub HasStanding : Horizontal → Base → Base → Type 0
HasStanding Left b c = LeftOf b c
HasStanding Level b c = LevelWith b c
HasStanding Right b c = LeftOf c b

-- ---- the test says what it means (proved in proofs/Standing.antt under the names in lower case)
-- of numerators and determinants of any size
abbrev pub HorizontalExact : Type 0
HorizontalExact = (h : Horizontal) (p q : Fraction) → NotZero p.den → NotZero q.den → (horizontal p q ≡ h) ↔ HasHorizontal h p q

abbrev pub base_crosses : Base → Bool
base_crosses b = crosses b.first b.second

-- of bases: row 9 sees to those that are lent, "and a stop is named only by lines that cross"
abbrev pub StandingExact : Type 0
StandingExact = (h : Horizontal) (b c : Base) → T (base_crosses b) → T (base_crosses c) → (standing b c ≡ h) ↔ HasStanding h b c
