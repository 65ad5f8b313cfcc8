-- Points against lines, and the point of a line over a position.
use mathlib.Core.Path.{◌≡◌, sym, subst}
use mathlib.Core.Bool.{not}
use lib.IntN.{ℤ, pos}
use lib.Dec.{T, not_T}
use lib.Signed.{le_z, ◌≤ℤ◌, ◌<ℤ◌, le_z_yes, clash_ℤ}
use Rattle.integer.specs.Integer.{◌⊕◌, ◌⊗◌}
use Rattle.integer.specs.Fraction.{Fraction, Proper, before}
use Rattle.integer.proofs.Ring.{ring, ◌⊞◌, ◌⊟◌, ◌⊠◌, minus, con, ◌≗◌}
use Rattle.integer.proofs.Order.{le_by, lt_by, le_over, eq_by, le→nonneg, lt→positive, nonneg_add, nonneg_mul, positive_mul, lt→le}
use Rattle.integer.proofs.Linear.{neg_le, neg_lt, neg_ge}
use Rattle.integer.proofs.Fraction.{cross, cross_turn, before→cross, cross→before, at_most→cross, cross→at_most, before→at_most}
use Rattle.geometry.specs.declared.Line.{Line}
use Rattle.geometry.specs.Lines.{dx, dy, offset, IsLine, det, numer}
use Rattle.geometry.specs.Positions.{gap, below}
use Rattle.geometry.specs.Points.{Point, IsPoint, at, orientation, On, under}
use Rattle.geometry.specs.Orders.{Uncrossed}
use Rattle.geometry.proofs.Identities.{dx_positive, orientation-gap}
use Rattle.geometry.proofs.Between.{ahead, stays_closed}

-- a line at or below another at a point's position, and the other at or below the point: the line is at or below the point
pub under_transitive : (l m : Line) (P : Point) → IsLine l → IsLine m → gap l m (at P) ≤ℤ pos 0 → pos 0 ≤ℤ orientation m P → pos 0 ≤ℤ orientation l P
under_transitive l m P hl hm h k =
    le_over (dx_positive hm)
    (eq_by (pos 1) (ring 5 (λ e s a t g. (a ⊠ t ⊞ (con (pos 0) ⊟ g)) ⊟ e ⊠ (s ⊟ con (pos 0)) ≗ con (pos 1) ⊠ (minus g ⊟ (e ⊠ s ⊟ a ⊠ t))) tt (dx m) (orientation l P) (dx l) (orientation m P) (gap l m (at P))) (sym (orientation-gap l m P)))
    (nonneg_add (nonneg_mul (lt→le (dx_positive hl)) k) (le→nonneg h))

-- in a column the lines at or below a point are a first part of the order
pub under_down : (p q : Fraction) (l m : Line) (P : Point) → Proper p → Proper q → IsLine l → IsLine m → Uncrossed p q l m → IsPoint P → T (not (before (at P) p)) → T (before (at P) q) → T (not (below p m l)) → T (under P m) → T (under P l)
unfolding under
under_down p q l m P hp hq hl hm clear hP u v h k = (under_transitive l m P hl hm (stays_closed p q l m hp hq clear h (at P) hP u (before→at_most (at P) q v)) (le_z_yes k)).le

-- at or above l and at or below m: l is not above m there
pub between_lines : (l m : Line) (P : Point) → IsLine l → IsLine m → pos 0 ≤ℤ orientation l P → orientation m P ≤ℤ pos 0 → gap l m (at P) ≤ℤ pos 0
between_lines l m P hl hm u v =
    le_by (eq_by (pos 1) (ring 5 (λ e s a t g. (e ⊠ s ⊞ a ⊠ (con (pos 0) ⊟ t)) ⊟ (con (pos 0) ⊟ g) ≗ con (pos 1) ⊠ ((e ⊠ s ⊟ a ⊠ t) ⊟ minus g)) tt (dx m) (orientation l P) (dx l) (orientation m P) (gap l m (at P))) (orientation-gap l m P))
    (nonneg_add (nonneg_mul (lt→le (dx_positive hm)) u) (nonneg_mul (lt→le (dx_positive hl)) (le→nonneg v)))

-- ---- the point of the line l over the position x
abbrev pub on : Line → Fraction → Point
on l x = record { X = x.num ⊗ dx l; Y = dy l ⊗ x.num ⊕ offset l ⊗ x.den; D = x.den ⊗ dx l }

pub on_point : (l : Line) (x : Fraction) → IsLine l → Proper x → IsPoint (on l x)
on_point l x hl hx = positive_mul hx (dx_positive hl)

pub on_line : (l : Line) (x : Fraction) → On l (on l x)
unfolding orientation
on_line l x = ring 5 (λ a b c n d. a ⊠ (b ⊠ n ⊞ c ⊠ d) ⊟ b ⊠ (n ⊠ a) ⊟ c ⊠ (d ⊠ a) ≗ con (pos 0)) tt (dx l) (dy l) (offset l) x.num x.den

-- its place against another line is the gap
pub on_other : (l m : Line) (x : Fraction) → orientation m (on l x) ≡ gap l m x
unfolding orientation gap det numer
on_other l m x =
    ring 8 (λ a b c e f g n d. e ⊠ (b ⊠ n ⊞ c ⊠ d) ⊟ f ⊠ (n ⊠ a) ⊟ g ⊠ (d ⊠ a) ≗ (b ⊠ e ⊟ f ⊠ a) ⊠ n ⊟ (a ⊠ g ⊟ e ⊠ c) ⊠ d) tt (dx l) (dy l) (offset l) (dx m) (dy m) (offset m) x.num x.den

-- it stands over x
pub on_cross : (l : Line) (x y : Fraction) → cross y (at (on l x)) ≡ dx l ⊗ cross y x
unfolding cross
on_cross l x y = ring 5 (λ a n d o e. o ⊠ (d ⊠ a) ⊟ (n ⊠ a) ⊠ e ≗ a ⊠ (o ⊠ d ⊟ n ⊠ e)) tt (dx l) x.num x.den y.num y.den

module _ (l : Line) (x y : Fraction) (hl : IsLine l) where
  scaled_neg : {a : ℤ} → a <ℤ pos 0 → dx l ⊗ a <ℤ pos 0
  scaled_neg {a} h = lt_by (ring 2 (λ k a. k ⊠ (con (pos 0) ⊟ a) ≗ con (pos 0) ⊟ k ⊠ a) tt (dx l) a) (positive_mul (dx_positive hl) (lt→positive h))

  scaled_le : {a : ℤ} → a ≤ℤ pos 0 → dx l ⊗ a ≤ℤ pos 0
  scaled_le {a} h = le_by (ring 2 (λ k a. k ⊠ (con (pos 0) ⊟ a) ≗ con (pos 0) ⊟ k ⊠ a) tt (dx l) a) (nonneg_mul (lt→le (dx_positive hl)) (le→nonneg h))

  pub on_after : T (before y x) → T (before y (at (on l x)))
  on_after h = cross→before y (at (on l x)) (subst (λ (z : ℤ). z <ℤ pos 0) (sym (on_cross l x y)) (scaled_neg (before→cross y x h)))

  pub on_before : T (before x y) → T (before (at (on l x)) y)
  on_before h = cross→before (at (on l x)) y (neg_lt (cross_turn y (at (on l x))) (subst (λ (z : ℤ). pos 0 <ℤ z) (sym (on_cross l x y)) (positive_mul (dx_positive hl) (ahead x y h))))

  pub on_from : T (not (before x y)) → T (not (before (at (on l x)) y))
  on_from h = cross→at_most y (at (on l x)) (subst (λ (z : ℤ). z ≤ℤ pos 0) (sym (on_cross l x y)) (scaled_le (at_most→cross y x h)))

  pub on_to : T (not (before y x)) → T (not (before y (at (on l x))))
  on_to h = cross→at_most (at (on l x)) y (neg_le (cross_turn y (at (on l x))) (subst (λ (z : ℤ). pos 0 ≤ℤ z) (sym (on_cross l x y)) (nonneg_mul (lt→le (dx_positive hl)) (neg_ge (cross_turn x y) (at_most→cross x y h)))))

pub on_under : (l : Line) (x : Fraction) → T (under (on l x) l)
unfolding under
on_under l x = subst (λ (z : ℤ). T (le_z (pos 0) z)) (sym (on_line l x)) tt

pub on_below : (l m : Line) (x : Fraction) → gap l m x <ℤ pos 0 → T (not (under (on l x) m))
unfolding under
on_below l m x h = not_T (le_z (pos 0) (orientation m (on l x))) (λ k. clash_ℤ (subst (λ (z : ℤ). z <ℤ pos 0) (sym (on_other l m x)) h) (le_z_yes k))
