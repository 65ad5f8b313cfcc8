-- A trapezoid's points lie in its box.
use mathlib.Core.Path.{◌≡◌, refl}
use mathlib.Core.Bool.{Bool, true, false, not, cond}
use mathlib.Core.Logic.{◌⊎◌, inl, inr}
use lib.Dec.{T}
use Prim.Native.Nat.{ℕ}
use lib.IntN.{ℤ, pos}
use lib.Signed.{lt_z, ◌≤ℤ◌, ◌<ℤ◌, le_z_yes, lt_z_yes, lt_z_no}
use Rattle.lists.proofs.Tests.{false_is}
use Rattle.integer.specs.Integer.{◌⊕◌, ◌⊖◌, ◌⊗◌, ⊝◌}
use Rattle.integer.specs.Fraction.{Fraction, Proper, before}
use Rattle.integer.proofs.Ring.{ring, ◌⊞◌, ◌⊟◌, ◌⊠◌, con, ◌≗◌}
use Rattle.integer.proofs.Order.{le_over, lt_over, le→nonneg, lt→positive, nonneg_add, nonneg_mul, nonneg_is, positive_nonneg_add, lt→le}
use Rattle.integer.proofs.Tests.{lt_yes, lt_no, le_no}
use Rattle.geometry.specs.declared.Line.{Line}
use Rattle.geometry.specs.declared.Trapezoid.{Trapezoid}
use Rattle.geometry.specs.Limit.{on_grid}
use Rattle.geometry.specs.Lines.{dx, dy, offset, IsLine}
use Rattle.geometry.specs.Positions.{position}
use Rattle.geometry.specs.Points.{Point, IsPoint, at, orientation, under}
use Rattle.geometry.specs.Trapezoids.{lies_in, lies_in_closed}
use Rattle.geometry.specs.Fitness.{FitFor}
use Rattle.geometry.proofs.Identities.{dx_positive}
use Rattle.geometry.proofs.Fitness.{left_proper, right_proper, bottom_line, top_line}
use Rattle.overlay.proofs.Ranges.{from_lies}
use Rattle.connectivity.proofs.Touches.{from_closed}
use Rattle.boxes.specs.declared.Box.{Box}
use Rattle.boxes.specs.Whole.{floor, ceiling}
use Rattle.boxes.specs.Boxes.{near, endless, height_below, height_above, lowest, highest, left_end, right_end, box_of, Inside}
use Rattle.boxes.proofs.Whole.{floor_exact, ceiling_exact}

module _ (P : Point) (hP : IsPoint P) where
  -- ---- left and right
  module _ (p : Fraction) (hp : Proper p) where
    pub after_floor : T (not (before (at P) p)) → floor p.num p.den ⊗ P.D ≤ℤ P.X
    unfolding before
    after_floor h =
        let k : p.num ⊗ P.D ≤ℤ P.X ⊗ p.den = lt_z_no h in
        let f = floor p.num p.den in
        le_over hp (ring 5 (λ x d n e f. (x ⊠ e ⊟ n ⊠ d) ⊞ (n ⊟ f ⊠ e) ⊠ d ≗ e ⊠ (x ⊟ f ⊠ d)) tt P.X P.D p.num p.den f)
        (nonneg_add (le→nonneg k) (nonneg_mul (le→nonneg (floor_exact p.num p.den hp).0) (lt→le hP)))

    up_ring : (f : ℤ) → (p.num ⊗ P.D ⊖ P.X ⊗ p.den) ⊕ (f ⊗ p.den ⊖ p.num) ⊗ P.D ≡ p.den ⊗ (f ⊗ P.D ⊖ P.X)
    up_ring f = ring 5 (λ x d n e f. (n ⊠ d ⊟ x ⊠ e) ⊞ (f ⊠ e ⊟ n) ⊠ d ≗ e ⊠ (f ⊠ d ⊟ x)) tt P.X P.D p.num p.den f

    pub before_ceiling : T (not (before p (at P))) → P.X ≤ℤ ceiling p.num p.den ⊗ P.D
    unfolding before
    before_ceiling h =
        let k : P.X ⊗ p.den ≤ℤ p.num ⊗ P.D = lt_z_no h in
        le_over hp (up_ring (ceiling p.num p.den)) (nonneg_add (le→nonneg k) (nonneg_mul (le→nonneg (ceiling_exact p.num p.den hp).0) (lt→le hP)))

    pub strictly_before_ceiling : T (before (at P) p) → P.X <ℤ ceiling p.num p.den ⊗ P.D
    unfolding before
    strictly_before_ceiling h =
        let k : P.X ⊗ p.den <ℤ p.num ⊗ P.D = lt_z_yes h in
        lt_over hp (up_ring (ceiling p.num p.den)) (positive_nonneg_add (lt→positive k) (nonneg_mul (le→nonneg (ceiling_exact p.num p.den hp).0) (lt→le hP)))

  -- ---- bottom and top, from the end x of the range where the line is lowest or highest
  module _ (l : Line) (hl : IsLine l) (x : ℤ) where
    pub above_floor : pos 0 ≤ℤ dy l ⊗ (P.X ⊖ x ⊗ P.D) → pos 0 ≤ℤ orientation l P → floor (dy l ⊗ x ⊕ offset l) (dx l) ⊗ P.D ≤ℤ P.Y
    unfolding orientation
    above_floor s h =
        let q = floor (dy l ⊗ x ⊕ offset l) (dx l) in
        let f = (floor_exact (dy l ⊗ x ⊕ offset l) (dx l) (dx_positive hl)).0 in
        le_over (dx_positive hl)
        (ring 8 (λ a b c u v d x q. (a ⊠ v ⊟ b ⊠ u ⊟ c ⊠ d) ⊞ (b ⊠ (u ⊟ x ⊠ d) ⊞ ((b ⊠ x ⊞ c) ⊟ q ⊠ a) ⊠ d) ≗ a ⊠ (v ⊟ q ⊠ d)) tt (dx l) (dy l) (offset l) P.X P.Y P.D x q)
        (nonneg_add h (nonneg_add s (nonneg_mul (le→nonneg f) (lt→le hP))))

    down_ring : (q : ℤ) → (pos 0 ⊖ (dx l ⊗ P.Y ⊖ dy l ⊗ P.X ⊖ offset l ⊗ P.D)) ⊕ (dy l ⊗ (x ⊗ P.D ⊖ P.X) ⊕ (q ⊗ dx l ⊖ (dy l ⊗ x ⊕ offset l)) ⊗ P.D) ≡ dx l ⊗ (q ⊗ P.D ⊖ P.Y)
    down_ring q = ring 8 (λ a b c u v d x q. (con (pos 0) ⊟ (a ⊠ v ⊟ b ⊠ u ⊟ c ⊠ d)) ⊞ (b ⊠ (x ⊠ d ⊟ u) ⊞ (q ⊠ a ⊟ (b ⊠ x ⊞ c)) ⊠ d) ≗ a ⊠ (q ⊠ d ⊟ v)) tt (dx l) (dy l) (offset l) P.X P.Y P.D x q

    module _ (s : pos 0 ≤ℤ dy l ⊗ (x ⊗ P.D ⊖ P.X)) where
      pub below_ceiling : orientation l P ≤ℤ pos 0 → P.Y ≤ℤ ceiling (dy l ⊗ x ⊕ offset l) (dx l) ⊗ P.D
      unfolding orientation
      below_ceiling h =
          let q = ceiling (dy l ⊗ x ⊕ offset l) (dx l) in
          let f = (ceiling_exact (dy l ⊗ x ⊕ offset l) (dx l) (dx_positive hl)).0 in
          le_over (dx_positive hl) (down_ring q) (nonneg_add (le→nonneg h) (nonneg_add s (nonneg_mul (le→nonneg f) (lt→le hP))))

      pub strictly_below_ceiling : orientation l P <ℤ pos 0 → P.Y <ℤ ceiling (dy l ⊗ x ⊕ offset l) (dx l) ⊗ P.D
      unfolding orientation
      strictly_below_ceiling h =
          let q = ceiling (dy l ⊗ x ⊕ offset l) (dx l) in
          let f = (ceiling_exact (dy l ⊗ x ⊕ offset l) (dx l) (dx_positive hl)).0 in
          lt_over (dx_positive hl) (down_ring q) (positive_nonneg_add (lt→positive h) (nonneg_add s (nonneg_mul (le→nonneg f) (lt→le hP))))

  -- ---- which end it is
  module _ (l : Line) (left right : ℤ) (u : left ⊗ P.D ≤ℤ P.X) (v : P.X ≤ℤ right ⊗ P.D) where
    turned : (a b c : ℤ) → (pos 0 ⊖ a) ⊗ (b ⊖ c) ≡ a ⊗ (c ⊖ b)
    turned a b c = ring 3 (λ a b c. (con (pos 0) ⊟ a) ⊠ (b ⊟ c) ≗ a ⊠ (c ⊟ b)) tt a b c

    low_end : (t : Bool) → lt_z (dy l) (pos 0) ≡ t → pos 0 ≤ℤ dy l ⊗ (P.X ⊖ cond t right left ⊗ P.D)
    low_end true e = nonneg_is (turned (dy l) (right ⊗ P.D) P.X) (nonneg_mul (le→nonneg (lt→le (lt_yes (dy l) (pos 0) e))) (le→nonneg v))
    low_end false e = nonneg_mul (lt_no (dy l) (pos 0) e) (le→nonneg u)

    high_end : (t : Bool) → lt_z (dy l) (pos 0) ≡ t → pos 0 ≤ℤ dy l ⊗ (cond t left right ⊗ P.D ⊖ P.X)
    high_end true e = nonneg_is (turned (dy l) P.X (left ⊗ P.D)) (nonneg_mul (le→nonneg (lt→le (lt_yes (dy l) (pos 0) e))) (le→nonneg u))
    high_end false e = nonneg_mul (lt_no (dy l) (pos 0) e) (le→nonneg v)

    module _ (hl : IsLine l) where
      pub over_lowest : pos 0 ≤ℤ orientation l P → (lowest l left right ≡ ⊝ (pos endless)) ⊎ (lowest l left right ⊗ P.D ≤ℤ P.Y)
      unfolding lowest height_below
      over_lowest h = go (on_grid near x)
        where
          x : ℤ
          x = cond (lt_z (dy l) (pos 0)) right left

          f : ℤ
          f = floor (dy l ⊗ x ⊕ offset l) (dx l)

          go : (t : Bool) → (cond t f (⊝ (pos endless)) ≡ ⊝ (pos endless)) ⊎ (cond t f (⊝ (pos endless)) ⊗ P.D ≤ℤ P.Y)
          go true = inr (above_floor l hl x (low_end (lt_z (dy l) (pos 0)) refl) h)
          go false = inl refl

      pub under_highest : orientation l P ≤ℤ pos 0 → (highest l left right ≡ pos endless) ⊎ (P.Y ≤ℤ highest l left right ⊗ P.D)
      unfolding highest height_above
      under_highest h = go (on_grid near x)
        where
          x : ℤ
          x = cond (lt_z (dy l) (pos 0)) left right

          f : ℤ
          f = ceiling (dy l ⊗ x ⊕ offset l) (dx l)

          go : (t : Bool) → (cond t f (pos endless) ≡ pos endless) ⊎ (P.Y ≤ℤ cond t f (pos endless) ⊗ P.D)
          go true = inr (below_ceiling l hl x (high_end (lt_z (dy l) (pos 0)) refl) h)
          go false = inl refl

      pub strictly_under_highest : orientation l P <ℤ pos 0 → (highest l left right ≡ pos endless) ⊎ (P.Y <ℤ highest l left right ⊗ P.D)
      unfolding highest height_above
      strictly_under_highest h = go (on_grid near x)
        where
          x : ℤ
          x = cond (lt_z (dy l) (pos 0)) left right

          f : ℤ
          f = ceiling (dy l ⊗ x ⊕ offset l) (dx l)

          go : (t : Bool) → (cond t f (pos endless) ≡ pos endless) ⊎ (P.Y <ℤ cond t f (pos endless) ⊗ P.D)
          go true = inr (strictly_below_ceiling l hl x (high_end (lt_z (dy l) (pos 0)) refl) h)
          go false = inl refl

-- ---- a point in a box; an end that is `endless` says nothing
pub record InBox (P : Point) (e : Box) : Type 0 where
  pub left : e.left.v ⊗ P.D ≤ℤ P.X
  pub right : P.X ≤ℤ e.right.v ⊗ P.D
  pub bottom : (e.bottom.v ≡ ⊝ (pos endless)) ⊎ (e.bottom.v ⊗ P.D ≤ℤ P.Y)
  pub top : (e.top.v ≡ pos endless) ⊎ (P.Y ≤ℤ e.top.v ⊗ P.D)

module _ {L : ℕ} {t : Trapezoid} (h : FitFor L t) (P : Point) (hP : IsPoint P) where
  pub closed_in_box : T (lies_in_closed P t) → InBox P (box_of t)
  unfolding box_of left_end right_end
  closed_in_box k =
      let c = from_closed P t k in
      let u = after_floor P hP (position t.left) (left_proper h) c.from in
      let v = before_ceiling P hP (position t.right) (right_proper h) c.to in
      record {
        left = u;
        right = v;
        bottom = over_lowest P hP t.bottom (left_end t) (right_end t) u v (bottom_line h) c.bottom;
        top = under_highest P hP t.top (left_end t) (right_end t) u v (top_line h) c.top;
      }

  pub lies_inside : T (lies_in P t) → Inside P (box_of t)
  unfolding box_of left_end right_end under
  lies_inside k =
      let c = from_lies P t k in
      let u = after_floor P hP (position t.left) (left_proper h) c.from in
      let v = strictly_before_ceiling P hP (position t.right) (right_proper h) c.to in
      record {
        left = u;
        right = v;
        bottom = over_lowest P hP t.bottom (left_end t) (right_end t) u (lt→le v) (bottom_line h) (le_z_yes c.bottom);
        top = strictly_under_highest P hP t.top (left_end t) (right_end t) u (lt→le v) (top_line h) (le_no (pos 0) (orientation t.top P) (false_is c.top));
      }
