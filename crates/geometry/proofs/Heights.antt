-- The order of heights at a position, and the order right of it: total, and transitive up to coincidence.
use mathlib.Core.Path.{◌≡◌, refl, sym, ◌∙◌, ap}
use mathlib.Core.Bool.{Bool, true, false, not}
use mathlib.Core.Logic.{◌⊎◌, inl, inr}
use lib.IntN.{ℤ, pos}
use lib.Dec.{T, T_not, not_T}
use lib.Signed.{◌≤ℤ◌, ◌<ℤ◌}
use Rattle.lists.proofs.Tests.{true_is, false_is, yes_or_no}
use Rattle.std.specs.declared.cmp.Ordering.{Ordering}
use Rattle.std.specs.declared.cmp.Ordering.TheVariants.{Less, Equal, Greater}
use Rattle.integer.specs.Integer.{◌⊕◌, ◌⊗◌, ⊝◌}
use Rattle.integer.specs.Compare.{order_of}
use Rattle.integer.specs.Fraction.{Fraction, Proper}
use Rattle.integer.proofs.Ring.{ring, ◌⊞◌, ◌⊟◌, ◌⊠◌, con, ◌≗◌}
use Rattle.integer.proofs.Order.{eq_over, lt→le, antisymm, lt_or_le, weighted_le, weighted_lt, weighted_lt'}
use Rattle.integer.proofs.Linear.{zarith, minus⁺, minus⁻, neg_lt, neg_gt, neg_zero}
use Rattle.integer.proofs.Tests.{order_by_lem, order_exact, says-order}
use Rattle.integer.proofs.Fraction.{cross}
use Rattle.geometry.specs.declared.Line.{Line}
use Rattle.geometry.specs.Lines.{IsLine, det, numer}
use Rattle.geometry.specs.Positions.{gap, heights, then_by, right_of, is_less, is_greater, below}
use Rattle.geometry.specs.Points.{at}
use Rattle.geometry.proofs.Identities.{dx_positive, gap_chain, det_chain, gap_moves, gap_turn, det_turn}

-- ---- heights at a position
pub heights-gap : (x : Fraction) (l m : Line) → heights x l m ≡ order_of (gap l m x) (pos 0)
unfolding heights gap
heights-gap x l m =
    order_by_lem (x.num ⊗ det l m) (numer l m ⊗ x.den) (gap l m x) (pos 0) (ring 4 (λ a b n d. n ⊠ a ⊟ b ⊠ d ≗ (a ⊠ n ⊟ b ⊠ d) ⊟ con (pos 0)) tt (det l m) (numer l m) x.num x.den)

pub height_total : (l m : Line) (x : Fraction) → (gap l m x ≤ℤ pos 0) ⊎ (gap m l x ≤ℤ pos 0)
height_total l m x = elim (lt_or_le (pos 0) (gap l m x)) [ inl h ↦ inr (lt→le (neg_lt (gap_turn l m x) h)) | inr h ↦ inl h ]

pub height_trans : (l m k : Line) (x : Fraction) → IsLine l → IsLine m → IsLine k → gap l m x ≤ℤ pos 0 → gap m k x ≤ℤ pos 0 → gap l k x ≤ℤ pos 0
height_trans l m k x hl hm hk h j = weighted_le (gap_chain l m k x) (dx_positive hm) (lt→le (dx_positive hk)) (lt→le (dx_positive hl)) h j

pub right_by : (x : Fraction) (l m : Line) (o : Ordering) → heights x l m ≡ o → right_of x l m ≡ then_by o (order_of (det l m) (pos 0))
unfolding right_of
right_by x l m o e = rw e

-- ---- right of a position: by a, and where that is 0 by b
abbrev pub Lower : ℤ → ℤ → Type 0
Lower a b = (a <ℤ pos 0) ⊎ ((a ≡ pos 0) × (b <ℤ pos 0))

abbrev pub AtMost : ℤ → ℤ → Type 0
AtMost a b = (a <ℤ pos 0) ⊎ ((a ≡ pos 0) × (b ≤ℤ pos 0))

is_lower : (a b : ℤ) → T (is_less (then_by (order_of a (pos 0)) (order_of b (pos 0)))) → Lower a b
is_lower a b = go (order_of a (pos 0)) (order_of b (pos 0)) refl refl
  where
    go : (o u : Ordering) → order_of a (pos 0) ≡ o → order_of b (pos 0) ≡ u → T (is_less (then_by o u)) → Lower a b
    go Less u e f h = inl ((order_exact Less a (pos 0)).0 e)
    go Equal Less e f h = inr ((order_exact Equal a (pos 0)).0 e, (order_exact Less b (pos 0)).0 f)
    go Equal Equal e f h = absurd h
    go Equal Greater e f h = absurd h
    go Greater u e f h = absurd h

lower_is : (a b : ℤ) → Lower a b → T (is_less (then_by (order_of a (pos 0)) (order_of b (pos 0))))
lower_is a b (inl h) = rw (says-order Less a (pos 0) h) tt
lower_is a b (inr h) = rw (says-order Equal a (pos 0) h.0, says-order Less b (pos 0) h.1) tt

pub lower_at_most : {a b : ℤ} → Lower a b → AtMost a b
lower_at_most (inl h) = inl h
lower_at_most (inr h) = inr (h.0, lt→le h.1)

-- one way round or the other
at_most_or_lower : {a b a' b' : ℤ} → a' ≡ ⊝ a → b' ≡ ⊝ b → AtMost a b ⊎ Lower a' b'
at_most_or_lower {a} {b} e f =
    elim (lt_or_le a (pos 0)) [
      | inl h ↦ inl (inl h)
      | inr h ↦ elim (lt_or_le (pos 0) a) [
        | inl k ↦ inr (inl (neg_lt e k))
        | inr k ↦ elim (lt_or_le (pos 0) b) [ inl j ↦ inr (inr (neg_zero e (antisymm k h), neg_lt f j)) | inr j ↦ inl (inr (antisymm k h, j)) ]
      ]
    ]

at_most_not_lower : {a b a' b' : ℤ} → a' ≡ ⊝ a → b' ≡ ⊝ b → AtMost a b → Lower a' b' → ⊥
at_most_not_lower {a} {b} e f (inl h) (inl k) = omega (zarith, e, minus⁺ a, minus⁻ a)
at_most_not_lower {a} {b} e f (inl h) (inr k) = omega (zarith, e, k.0, minus⁺ a, minus⁻ a)
at_most_not_lower {a} {b} e f (inr h) (inl k) = omega (zarith, e, h.0, minus⁺ a, minus⁻ a)
at_most_not_lower {a} {b} e f (inr h) (inr k) = let z = h.1 in let y = k.1 in omega (zarith, f, minus⁺ b, minus⁻ b)

module _ (x : Fraction) (l m : Line) where
  pub below→lower : T (below x l m) → Lower (gap l m x) (det l m)
  unfolding below right_of
  below→lower h = is_lower (gap l m x) (det l m) (rw (heights-gap x l m) at h)

  pub lower→below : Lower (gap l m x) (det l m) → T (below x l m)
  unfolding below right_of
  lower→below h = rw (heights-gap x l m) (lower_is (gap l m x) (det l m) h)

-- "l at most m right of x" is `T (not (below x m l))`
module _ (x : Fraction) (l m : Line) where
  pub not_below→at_most : T (not (below x m l)) → AtMost (gap l m x) (det l m)
  not_below→at_most h = elim (at_most_or_lower (gap_turn l m x) (det_turn l m)) [ inl k ↦ k | inr k ↦ absurd (T_not (below x m l) h (lower→below x m l k)) ]

  pub at_most→not_below : AtMost (gap l m x) (det l m) → T (not (below x m l))
  at_most→not_below h = not_T (below x m l) (λ k. at_most_not_lower (gap_turn l m x) (det_turn l m) h (below→lower x m l k))

  pub below→not_below : T (below x l m) → T (not (below x m l))
  below→not_below h = at_most→not_below (lower_at_most (below→lower x l m h))

-- ---- total: below one way, the other way, or coinciding
pub coincide : (x : Fraction) (l m : Line) → T (not (below x l m)) → T (not (below x m l)) → (gap l m x ≡ pos 0) × (det l m ≡ pos 0)
coincide x l m h k = go (not_below→at_most x l m k) (not_below→at_most x m l h)
  where
    go : AtMost (gap l m x) (det l m) → AtMost (gap m l x) (det m l) → (gap l m x ≡ pos 0) × (det l m ≡ pos 0)
    go (inl a) (inl b) = absurd (omega (zarith, gap_turn l m x, minus⁺ (gap l m x), minus⁻ (gap l m x)))
    go (inl a) (inr b) = absurd (omega (zarith, gap_turn l m x, b.0, minus⁺ (gap l m x), minus⁻ (gap l m x)))
    go (inr a) (inl b) = absurd (omega (zarith, gap_turn l m x, a.0, minus⁺ (gap l m x), minus⁻ (gap l m x)))
    go (inr a) (inr b) = (a.0, (let u = a.1 in let v = b.1 in omega (zarith, det_turn l m, minus⁺ (det l m), minus⁻ (det l m))))

pub right_total : (x : Fraction) (l m : Line) → T (below x l m) ⊎ (((gap l m x ≡ pos 0) × (det l m ≡ pos 0)) ⊎ T (below x m l))
right_total x l m = elim (yes_or_no (below x l m)) [ inl h ↦ inl h | inr h ↦ elim (yes_or_no (below x m l)) [ inl k ↦ inr (inr k) | inr k ↦ inr (inl (coincide x l m h k)) ] ]

-- ---- `right_of` by `below`, one way round and the other
module _ (p : Fraction) (l m : Line) where
  pub right_less : T (below p l m) → right_of p l m ≡ Less
  unfolding below
  right_less h = go (right_of p l m) h
    where
      go : (o : Ordering) → T (is_less o) → o ≡ Less
      go Less h = refl
      go Equal h = absurd h
      go Greater h = absurd h

  pub right_greater : T (below p m l) → right_of p l m ≡ Greater
  right_greater h = go (below→lower p m l h)
    where
      go : Lower (gap m l p) (det m l) → right_of p l m ≡ Greater
      go (inl g) = right_by p l m Greater (heights-gap p l m ∙ says-order Greater (gap l m p) (pos 0) (neg_gt (gap_turn m l p) g))
      go (inr g) =
          right_by p l m Equal (heights-gap p l m ∙ says-order Equal (gap l m p) (pos 0) (neg_zero (gap_turn m l p) g.0))
          ∙ says-order Greater (det l m) (pos 0) (neg_gt (det_turn m l) g.1)

  pub right_equal : T (not (below p l m)) → T (not (below p m l)) → right_of p l m ≡ Equal
  right_equal h k =
      let c = coincide p l m h k in
      right_by p l m Equal (heights-gap p l m ∙ says-order Equal (gap l m p) (pos 0) c.0) ∙ says-order Equal (det l m) (pos 0) c.1

  -- whichever order it is, it tells both tests
  pub right_tests : (o : Ordering) → right_of p l m ≡ o → (below p l m ≡ is_less o) × (below p m l ≡ is_greater o)
  right_tests o e =
      elim (yes_or_no (below p l m)) [
        | inl h ↦ at o Less (sym e ∙ right_less h) (true_is h) (false_is (below→not_below p l m h))
        | inr h ↦
            elim (yes_or_no (below p m l)) [ inl k ↦ at o Greater (sym e ∙ right_greater k) (false_is h) (true_is k) | inr k ↦ at o Equal (sym e ∙ right_equal h k) (false_is h) (false_is k) ]
      ]
    where
      at : {s t : Bool} (o q : Ordering) → o ≡ q → s ≡ is_less q → t ≡ is_greater q → (s ≡ is_less o) × (t ≡ is_greater o)
      at o q f a b = (a ∙ ap is_less (sym f), b ∙ ap is_greater (sym f))

-- ---- transitive
module _ (x : Fraction) (l m k : Line) (hl : IsLine l) (hm : IsLine m) (hk : IsLine k) where
  at_most_chain : AtMost (gap l m x) (det l m) → AtMost (gap m k x) (det m k) → AtMost (gap l k x) (det l k)
  at_most_chain (inl h) (inl j) = inl (weighted_lt (gap_chain l m k x) (dx_positive hm) (dx_positive hk) (lt→le (dx_positive hl)) h (lt→le j))
  at_most_chain (inl h) (inr j) = inl (weighted_lt (gap_chain l m k x) (dx_positive hm) (dx_positive hk) (lt→le (dx_positive hl)) h (omega (zarith, j.0)))
  at_most_chain (inr h) (inl j) = inl (weighted_lt' (gap_chain l m k x) (dx_positive hm) (lt→le (dx_positive hk)) (dx_positive hl) (omega (zarith, h.0)) j)
  at_most_chain (inr h) (inr j) =
      let g : gap l k x ≤ℤ pos 0 = height_trans l m k x hl hm hk (omega (zarith, h.0)) (omega (zarith, j.0)) in
      elim (lt_or_le (gap l k x) (pos 0)) [
        | inl t ↦ inl t
        | inr t ↦ inr (antisymm g t, weighted_le (det_chain l m k) (dx_positive hm) (lt→le (dx_positive hk)) (lt→le (dx_positive hl)) h.1 j.1)
      ]

  pub right_trans : T (not (below x m l)) → T (not (below x k m)) → T (not (below x k l))
  right_trans h j = at_most→not_below x l k (at_most_chain (not_below→at_most x l m h) (not_below→at_most x m k j))

-- ---- lines that coincide have equal heights everywhere
pub coincide_everywhere : (x y : Fraction) (l m : Line) → Proper x → gap l m x ≡ pos 0 → det l m ≡ pos 0 → gap l m y ≡ pos 0
coincide_everywhere x y l m hx g d =
    eq_over hx (gap_moves l m x y ∙ ap (λ (z : ℤ). y.den ⊗ z ⊕ det l m ⊗ cross y x) g ∙ ap (λ (z : ℤ). y.den ⊗ pos 0 ⊕ z ⊗ cross y x) d ∙ ring 3 (λ a b c. a ⊠ con (pos 0) ⊞ con (pos 0) ⊠ b ≗ c ⊠ con (pos 0)) tt y.den (cross y x) x.den)
