-- Two lines at a position and right of it, and points that differ.
use mathlib.Core.Path.{◌≡◌, refl, sym, ◌∙◌, ap, subst}
use mathlib.Core.Bool.{not}
use mathlib.Core.Logic.{◌⊎◌, inl, inr}
use lib.Dec.{T, T_not}
use lib.IntN.{ℤ, pos}
use lib.Signed.{◌≤ℤ◌, ◌<ℤ◌, clash_ℤ}
use Rattle.lists.proofs.Tests.{yes_or_no}
use Rattle.std.specs.declared.cmp.Ordering.{Ordering}
use Rattle.std.specs.declared.cmp.Ordering.TheVariants.{Less, Equal, Greater}
use Rattle.integer.specs.Integer.{◌⊕◌, ◌⊖◌, ◌⊗◌}
use Rattle.integer.specs.Fraction.{Fraction, Proper, before, mediant}
use Rattle.integer.proofs.Ring.{ring, ◌⊞◌, ◌⊟◌, ◌⊠◌, con, ◌≗◌}
use Rattle.integer.proofs.Order.{lt→le, lt_or_le, antisymm, lt→positive, positive_mul, eq_over, weighted_lt, weighted_lt'}
use Rattle.integer.proofs.Linear.{zarith, difference}
use Rattle.integer.proofs.Tests.{order_exact, says-order}
use Rattle.integer.proofs.Fraction.{cross, before→cross, at_most_refl, before_trans, mediant_after, mediant-before}
use Rattle.geometry.specs.declared.Line.{Line}
use Rattle.geometry.specs.Lines.{dx, dy, offset, IsLine, det, numer}
use Rattle.geometry.specs.Positions.{gap, heights, is_less, below}
use Rattle.geometry.specs.Points.{Point, IsPoint, SamePoint, at, orientation}
use Rattle.geometry.proofs.Identities.{dx_positive, gap_moves, gap-between}
use Rattle.geometry.proofs.Heights.{AtMost, heights-gap, not_below→at_most, at_most→not_below, coincide, coincide_everywhere}
use Rattle.geometry.proofs.Between.{ahead}
use Rattle.geometry.proofs.Points.{on}
use Rattle.overlay.proofs.Entering.{until}
use Rattle.connectivity.specs.Touching.{not_above, lower_at}

-- ---- below at a position
less_yes : (o : Ordering) → T (is_less o) → o ≡ Less
less_yes Less h = refl
less_yes Equal h = absurd h
less_yes Greater h = absurd h

module _ (x : Fraction) (l m : Line) where
  pub lower→gap : T (lower_at x l m) → gap l m x <ℤ pos 0
  unfolding lower_at
  lower→gap h = (order_exact Less (gap l m x) (pos 0)).0 (sym (heights-gap x l m) ∙ less_yes (heights x l m) h)

  pub gap→lower : gap l m x <ℤ pos 0 → T (lower_at x l m)
  unfolding lower_at
  gap→lower h = subst (λ (o : Ordering). T (is_less o)) (sym (heights-gap x l m ∙ says-order Less (gap l m x) (pos 0) h)) tt

-- ---- different points
-- over two positions
pub apart_across : (P Q : Point) → T (before (at P) (at Q)) → SamePoint P Q → ⊥
unfolding cross
apart_across P Q b s = let c : P.X ⊗ Q.D ⊖ Q.X ⊗ P.D <ℤ pos 0 = before→cross (at P) (at Q) b in omega (zarith, s.across, difference (P.X ⊗ Q.D) (Q.X ⊗ P.D))

-- of two lines that do not meet at a position
up_gap : (l m : Line) (x : Fraction) → (on l x).Y ⊗ (on m x).D ⊖ (on m x).Y ⊗ (on l x).D ≡ x.den ⊗ gap l m x
unfolding gap det numer
up_gap l m x =
    ring 8 (λ a b c e f g n d. (b ⊠ n ⊞ c ⊠ d) ⊠ (d ⊠ e) ⊟ (f ⊠ n ⊞ g ⊠ d) ⊠ (d ⊠ a) ≗ d ⊠ ((b ⊠ e ⊟ f ⊠ a) ⊠ n ⊟ (a ⊠ g ⊟ e ⊠ c) ⊠ d)) tt
    (dx l) (dy l) (offset l) (dx m) (dy m) (offset m) x.num x.den

pub apart_up : (l m : Line) (x : Fraction) → Proper x → gap l m x <ℤ pos 0 → SamePoint (on l x) (on m x) → ⊥
apart_up l m x hx g s =
    let k = positive_mul hx (lt→positive g) in
    let e = ring 2 (λ d g. d ⊠ (con (pos 0) ⊟ g) ≗ con (pos 0) ⊟ d ⊠ g) tt x.den (gap l m x) in
    omega (zarith, e, s.up, up_gap l m x, difference (pos 0) (x.den ⊗ gap l m x), difference ((on l x).Y ⊗ (on m x).D) ((on m x).Y ⊗ (on l x).D))

-- R is below R' over one position: it is below each line that R' is not above
module _ (R R' : Point) (hR : IsPoint R) (hR' : IsPoint R') (level : R.X ⊗ R'.D ≡ R'.X ⊗ R.D) (up : R.Y ⊗ R'.D <ℤ R'.Y ⊗ R.D) where
  pub beneath : (m : Line) → IsLine m → orientation m R' ≤ℤ pos 0 → orientation m R <ℤ pos 0
  unfolding orientation
  beneath m hm h = let b : R.Y ⊗ R'.D ⊖ R'.Y ⊗ R.D <ℤ pos 0 = omega (zarith, difference (R.Y ⊗ R'.D) (R'.Y ⊗ R.D)) in weighted_lt' moved hR' (lt→le hR) (dx_positive hm) h b
    where
      moved : R'.D ⊗ orientation m R ≡ R.D ⊗ orientation m R' ⊕ dx m ⊗ (R.Y ⊗ R'.D ⊖ R'.Y ⊗ R.D)
      moved =
          ring 9 (λ a b c X Y D S W E. E ⊠ (a ⊠ Y ⊟ b ⊠ X ⊟ c ⊠ D) ≗ a ⊠ (Y ⊠ E) ⊟ b ⊠ (X ⊠ E) ⊟ c ⊠ (D ⊠ E)) tt (dx m) (dy m) (offset m) R.X R.Y R.D R'.X R'.Y R'.D
          ∙ ap (λ (z : ℤ). dx m ⊗ (R.Y ⊗ R'.D) ⊖ dy m ⊗ z ⊖ offset m ⊗ (R.D ⊗ R'.D)) level
          ∙ ring 9 (λ a b c X Y D S W E. a ⊠ (Y ⊠ E) ⊟ b ⊠ (S ⊠ D) ⊟ c ⊠ (D ⊠ E) ≗ D ⊠ (a ⊠ W ⊟ b ⊠ S ⊟ c ⊠ E) ⊞ a ⊠ (Y ⊠ E ⊟ W ⊠ D)) tt (dx m) (dy m) (offset m) R.X R.Y R.D R'.X R'.Y R'.D

-- below at a position: below at one level with it
pub gap_level : (l m : Line) (p x : Fraction) → Proper p → Proper x → cross x p ≡ pos 0 → gap l m p <ℤ pos 0 → gap l m x <ℤ pos 0
gap_level l m p x hp hx e h =
    let z : pos 0 ≤ℤ pos 0 = omega zarith in
    weighted_lt (gap_moves l m p x ∙ ap (λ (w : ℤ). x.den ⊗ gap l m p ⊕ det l m ⊗ w) e ∙ ring 3 (λ u g d. u ⊠ g ⊞ d ⊠ con (pos 0) ≗ u ⊠ g ⊞ con (pos 0) ⊠ con (pos 0)) tt x.den (gap l m p) (det l m)) hp hx z h z

-- ---- lines at or below each other right of p stay so up to some position after p, which is q or before it
pub record Upto (p q : Fraction) (l m : Line) : Type 0 where
  pub end : Fraction
  pub proper : Proper end
  pub after : T (before p end)
  pub by : T (not (before q end))
  pub between : (x : Fraction) → Proper x → T (before p x) → T (before x end) → gap l m x ≤ℤ pos 0

pub upto : (p q : Fraction) (l m : Line) → Proper p → Proper q → T (before p q) → T (not_above p l m) → Upto p q l m
unfolding not_above
upto p q l m hp hq h n =
    elim (yes_or_no (below p l m)) [
      | inl b ↦ (let u = until p q l m hp hq h b in record { end = u.end; proper = u.proper; after = u.after; by = u.by; between = λ x hx v w. lt→le (u.between x hx v w) })
      | inr b ↦ (let c = coincide p l m b n in record { end = q; proper = hq; after = h; by = at_most_refl q; between = λ x hx v w. let z = coincide_everywhere p x l m hp c.0 c.1 in omega (zarith, z) })
    ]

-- ---- l is below m at y, or they coincide
abbrev pub Under : Fraction → Line → Line → Type 0
Under y l m = (gap l m y <ℤ pos 0) ⊎ ((gap l m y ≡ pos 0) × (det l m ≡ pos 0))

-- so it is between two positions at which it is at or below m
module _ (p q : Fraction) (l m : Line) (hp : Proper p) (hq : Proper q) (h : T (before p q)) (a : gap l m p ≤ℤ pos 0) (b : gap l m q ≤ℤ pos 0) where
  abbrev y : Fraction
  y = mediant p q

  after : pos 0 <ℤ cross y p
  after = ahead p y (mediant_after p q h)

  until_q : pos 0 <ℤ cross q y
  until_q = ahead y q (mediant-before p q h)

  module _ (k : pos 0 ≤ℤ gap l m y) where
    first_zero : gap l m p ≡ pos 0
    first_zero = elim (lt_or_le (gap l m p) (pos 0)) [ inr g ↦ antisymm a g | inl g ↦ absurd (clash_ℤ (weighted_lt (gap-between l m p q y) (ahead p q h) until_q (lt→le after) g b) k) ]

    second_zero : gap l m q ≡ pos 0
    second_zero = elim (lt_or_le (gap l m q) (pos 0)) [ inr g ↦ antisymm b g | inl g ↦ absurd (clash_ℤ (weighted_lt' (gap-between l m p q y) (ahead p q h) (lt→le until_q) after a g) k) ]

    det_zero : det l m ≡ pos 0
    det_zero =
        eq_over (ahead p q h)
        (ring 3 (λ c d z. c ⊠ d ≗ (z ⊞ d ⊠ c) ⊟ z) tt (cross q p) (det l m) (q.den ⊗ gap l m p)
        ∙ ap (λ (z : ℤ). z ⊖ q.den ⊗ gap l m p) (sym (gap_moves l m p q))
        ∙ (λ j. p.den ⊗ second_zero j ⊖ q.den ⊗ first_zero j)
        ∙ ring 3 (λ c d e. d ⊠ con (pos 0) ⊟ e ⊠ con (pos 0) ≗ c ⊠ con (pos 0)) tt (cross q p) p.den q.den)

  pub under_between : Under y l m
  under_between = elim (lt_or_le (gap l m y) (pos 0)) [ inl k ↦ inl k | inr k ↦ inr (coincide_everywhere p y l m hp (first_zero k) (det_zero k), det_zero k) ]

module _ (y : Fraction) (l m : Line) (hy : Proper y) (u : Under y l m) where
  -- lines that coincide are in order everywhere
  level_everywhere : (p : Fraction) → (gap l m y ≡ pos 0) × (det l m ≡ pos 0) → T (not_above p l m)
  unfolding not_above
  level_everywhere p e = at_most→not_below p l m (inr (coincide_everywhere y p l m hy e.0 e.1, (let z : det l m ≤ℤ pos 0 = omega (zarith, e.1) in z)))

  -- above m right of p, l is strictly below it at y
  pub comes_below : (p : Fraction) → T (below p m l) → gap l m y <ℤ pos 0
  unfolding not_above
  comes_below p n = elim u [ inl g ↦ g | inr e ↦ absurd (T_not (below p m l) (level_everywhere p e) n) ]

  -- in order right of p, so right of each position up to y
  pub keeps : (p r : Fraction) → Proper p → Proper r → T (not_above p l m) → T (before p r) → T (before r y) → T (not_above r l m)
  unfolding not_above
  keeps p r hp hr n v w =
      elim u [
        | inl g ↦ at_most→not_below r l m (inl (weighted_lt' (gap-between l m p y r) (ahead p y (before_trans p r y hp hr hy v w)) (lt→le (ahead r y w)) (ahead p r v) (at_most_gap (not_below→at_most p l m n)) g))
        | inr e ↦ level_everywhere r e
      ]
    where
      at_most_gap : AtMost (gap l m p) (det l m) → gap l m p ≤ℤ pos 0
      at_most_gap (inl g) = lt→le g
      at_most_gap (inr g) = omega (zarith, g.0)
