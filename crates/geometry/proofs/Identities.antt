-- The identities of lines on which every comparison rests. dx, dy and offset of a line are atoms here.
use mathlib.Core.Path.{◌≡◌}
use lib.IntN.{pos}
use lib.Signed.{◌<ℤ◌}
use Rattle.integer.specs.Integer.{◌⊕◌, ◌⊖◌, ◌⊗◌, ⊝◌}
use Rattle.integer.specs.Fraction.{Fraction}
use Rattle.integer.proofs.Ring.{ring, ◌⊞◌, ◌⊟◌, ◌⊠◌, minus, con, ◌≗◌}
use Rattle.integer.proofs.Order.{lt→positive}
use Rattle.integer.proofs.Fraction.{cross}
use Rattle.geometry.specs.declared.Line.{Line}
use Rattle.geometry.specs.Lines.{dx, dy, offset, IsLine, det, numer}
use Rattle.geometry.specs.Positions.{gap, ratio}
use Rattle.geometry.specs.Points.{Point, at, orientation}

pub dx_positive : {l : Line} → IsLine l → pos 0 <ℤ dx l
unfolding dx
dx_positive h = lt→positive h.rightward

pub orientation-gap : (l m : Line) (P : Point) → dx m ⊗ orientation l P ⊖ dx l ⊗ orientation m P ≡ ⊝ gap l m (at P)
unfolding orientation gap det numer
orientation-gap l m P =
    ring 9 (λ a b c e f g X Y D. e ⊠ (a ⊠ Y ⊟ b ⊠ X ⊟ c ⊠ D) ⊟ a ⊠ (e ⊠ Y ⊟ f ⊠ X ⊟ g ⊠ D) ≗ minus ((b ⊠ e ⊟ f ⊠ a) ⊠ X ⊟ (a ⊠ g ⊟ e ⊠ c) ⊠ D)) tt (dx l) (dy l) (offset l) (dx m) (dy m) (offset m) P.X P.Y P.D

pub gap_chain : (l m k : Line) (x : Fraction) → dx m ⊗ gap l k x ≡ dx k ⊗ gap l m x ⊕ dx l ⊗ gap m k x
unfolding gap det numer
gap_chain l m k x =
    ring 11 (λ a b c e f g i j h n d. e ⊠ ((b ⊠ i ⊟ j ⊠ a) ⊠ n ⊟ (a ⊠ h ⊟ i ⊠ c) ⊠ d) ≗ i ⊠ ((b ⊠ e ⊟ f ⊠ a) ⊠ n ⊟ (a ⊠ g ⊟ e ⊠ c) ⊠ d) ⊞ a ⊠ ((f ⊠ i ⊟ j ⊠ e) ⊠ n ⊟ (e ⊠ h ⊟ i ⊠ g) ⊠ d)) tt (dx l) (dy l) (offset l) (dx m) (dy m) (offset m) (dx k) (dy k) (offset k) x.num x.den

pub det_chain : (l m k : Line) → dx m ⊗ det l k ≡ dx k ⊗ det l m ⊕ dx l ⊗ det m k
unfolding det
det_chain l m k = ring 6 (λ a b e f i j. e ⊠ (b ⊠ i ⊟ j ⊠ a) ≗ i ⊠ (b ⊠ e ⊟ f ⊠ a) ⊞ a ⊠ (f ⊠ i ⊟ j ⊠ e)) tt (dx l) (dy l) (dx m) (dy m) (dx k) (dy k)

pub gap_moves : (l m : Line) (p x : Fraction) → p.den ⊗ gap l m x ≡ x.den ⊗ gap l m p ⊕ det l m ⊗ cross x p
unfolding gap cross
gap_moves l m p x = ring 6 (λ t u n d o e. d ⊠ (t ⊠ o ⊟ u ⊠ e) ≗ e ⊠ (t ⊠ n ⊟ u ⊠ d) ⊞ t ⊠ (o ⊠ d ⊟ n ⊠ e)) tt (det l m) (numer l m) p.num p.den x.num x.den

pub gap_turn : (l m : Line) (x : Fraction) → gap m l x ≡ ⊝ gap l m x
unfolding gap det numer
gap_turn l m x = ring 8 (λ a b c e f g n d. (f ⊠ a ⊟ b ⊠ e) ⊠ n ⊟ (e ⊠ c ⊟ a ⊠ g) ⊠ d ≗ minus ((b ⊠ e ⊟ f ⊠ a) ⊠ n ⊟ (a ⊠ g ⊟ e ⊠ c) ⊠ d)) tt (dx l) (dy l) (offset l) (dx m) (dy m) (offset m) x.num x.den

pub det_turn : (l m : Line) → det m l ≡ ⊝ det l m
unfolding det
det_turn l m = ring 4 (λ a b e f. f ⊠ a ⊟ b ⊠ e ≗ minus (b ⊠ e ⊟ f ⊠ a)) tt (dx l) (dy l) (dx m) (dy m)

pub height_refl : (l : Line) (x : Fraction) → gap l l x ≡ pos 0
unfolding gap det numer
height_refl l x = ring 5 (λ a b c n d. (b ⊠ a ⊟ b ⊠ a) ⊠ n ⊟ (a ⊠ c ⊟ a ⊠ c) ⊠ d ≗ con (pos 0)) tt (dx l) (dy l) (offset l) x.num x.den

pub det_same : (l : Line) → det l l ≡ pos 0
unfolding det
det_same l = ring 2 (λ a b. b ⊠ a ⊟ b ⊠ a ≗ con (pos 0)) tt (dx l) (dy l)

pub ratio_zero : (l m : Line) → gap l m (ratio l m) ≡ pos 0
unfolding gap ratio
ratio_zero l m = ring 2 (λ t u. t ⊠ u ⊟ u ⊠ t ≗ con (pos 0)) tt (det l m) (numer l m)

pub ratio_cross : (l m : Line) (x : Fraction) → cross x (ratio l m) ≡ gap l m x
unfolding gap ratio cross
ratio_cross l m x = ring 4 (λ t u n d. n ⊠ t ⊟ u ⊠ d ≗ t ⊠ n ⊟ u ⊠ d) tt (det l m) (numer l m) x.num x.den

pub gap-between : (l m : Line) (p q x : Fraction) → cross q p ⊗ gap l m x ≡ cross q x ⊗ gap l m p ⊕ cross x p ⊗ gap l m q
unfolding gap cross
gap-between l m p q x = ring 8 (λ t u a b c d n e. (c ⊠ b ⊟ a ⊠ d) ⊠ (t ⊠ n ⊟ u ⊠ e) ≗ (c ⊠ e ⊟ n ⊠ d) ⊠ (t ⊠ a ⊟ u ⊠ b) ⊞ (n ⊠ b ⊟ a ⊠ e) ⊠ (t ⊠ c ⊟ u ⊠ d)) tt (det l m) (numer l m) p.num p.den q.num q.den x.num x.den
