-- The order of fractions: total and transitive, with the mediant strictly between, and the sign of a linear function by it.
-- "p at most q" is `T (not (before q p))`.
use mathlib.Core.Path.{◌≡◌, refl, sym, subst}
use mathlib.Core.Bool.{not}
use mathlib.Core.Logic.{◌⊎◌, inl, inr, ◌↔◌}
use lib.Dec.{T, not_T}
use lib.IntN.{ℤ, pos}
use lib.Signed.{◌≤ℤ◌, ◌<ℤ◌, lt_z_yes, lt_z_no, clash_ℤ}
use Rattle.lists.proofs.Tests.{yes_or_no}
use Rattle.std.specs.declared.cmp.Ordering.TheVariants.{Less, Equal, Greater}
use Rattle.integer.specs.Integer.{◌⊕◌, ◌⊖◌, ◌⊗◌, ⊝◌}
use Rattle.integer.specs.Compare.{order_of}
use Rattle.integer.specs.Fraction.{Fraction, Proper, before, order, mediant, linear, root}
use Rattle.integer.proofs.Ring.{ring, ◌⊞◌, ◌⊟◌, ◌⊠◌, minus, con, ◌≗◌}
use Rattle.integer.proofs.Order.{lt→le, antisymm, lt_or_le, weighted_le, weighted_lt, weighted_lt'}
use Rattle.integer.proofs.Linear.{zarith, sum, difference, neg_ge, neg_gt}
use Rattle.integer.proofs.Tests.{yes_lt, no_lt, order_by_lem, order_exact}

-- ---- the order as the sign of a difference of products
unfoldable pub cross : Fraction → Fraction → ℤ
cross p q = p.num ⊗ q.den ⊖ q.num ⊗ p.den

pub cross_turn : (p q : Fraction) → cross q p ≡ ⊝ cross p q
unfolding cross
cross_turn p q = ring 4 (λ n d m e. m ⊠ d ⊟ n ⊠ e ≗ minus (n ⊠ e ⊟ m ⊠ d)) tt p.num p.den q.num q.den

pub cross_chain : (p q r : Fraction) → q.den ⊗ cross p r ≡ r.den ⊗ cross p q ⊕ p.den ⊗ cross q r
unfolding cross
cross_chain p q r =
    ring 6 (λ n d m e k f. e ⊠ (n ⊠ f ⊟ k ⊠ d) ≗ f ⊠ (n ⊠ e ⊟ m ⊠ d) ⊞ d ⊠ (m ⊠ f ⊟ k ⊠ e)) tt p.num p.den q.num q.den r.num r.den

pub before→cross : (p q : Fraction) → T (before p q) → cross p q <ℤ pos 0
unfolding before cross
before→cross p q h = let k : p.num ⊗ q.den <ℤ q.num ⊗ p.den = lt_z_yes h in omega (zarith, difference (p.num ⊗ q.den) (q.num ⊗ p.den))

pub cross→before : (p q : Fraction) → cross p q <ℤ pos 0 → T (before p q)
unfolding before cross
cross→before p q h = let k : p.num ⊗ q.den <ℤ q.num ⊗ p.den = omega (zarith, difference (p.num ⊗ q.den) (q.num ⊗ p.den)) in k.lt

pub at_most→cross : (p q : Fraction) → T (not (before q p)) → cross p q ≤ℤ pos 0
unfolding before cross
at_most→cross p q h = let k : p.num ⊗ q.den ≤ℤ q.num ⊗ p.den = lt_z_no h in omega (zarith, difference (p.num ⊗ q.den) (q.num ⊗ p.den))

pub cross→at_most : (p q : Fraction) → cross p q ≤ℤ pos 0 → T (not (before q p))
cross→at_most p q h = not_T (before q p) (λ k. clash_ℤ (neg_gt (cross_turn q p) (before→cross q p k)) h)

-- ---- total
pub before_or_not : (p q : Fraction) → T (before p q) ⊎ T (not (before p q))
before_or_not p q = yes_or_no (before p q)

pub before-total : (p q : Fraction) → T (before p q) ⊎ ((cross p q ≡ pos 0) ⊎ T (before q p))
before-total p q =
    elim (before_or_not p q) [ inl h ↦ inl h | inr h ↦ elim (before_or_not q p) [ inl k ↦ inr (inr k) | inr k ↦ inr (inl (antisymm (at_most→cross p q k) (neg_ge (cross_turn q p) (at_most→cross q p h)))) ] ]

pub before→at_most : (p q : Fraction) → T (before p q) → T (not (before q p))
before→at_most p q h = cross→at_most p q (lt→le (before→cross p q h))

pub at_most_refl : (p : Fraction) → T (not (before p p))
unfolding cross
at_most_refl p = cross→at_most p p (let e : p.num ⊗ p.den ⊖ p.num ⊗ p.den ≡ pos 0 = ring 2 (λ n d. n ⊠ d ⊟ n ⊠ d ≗ con (pos 0)) tt p.num p.den in omega (zarith, e))

-- ---- transitive
module _ (p q r : Fraction) (hp : Proper p) (hq : Proper q) (hr : Proper r) where
  pub at_most_trans : T (not (before q p)) → T (not (before r q)) → T (not (before r p))
  at_most_trans h k = cross→at_most p r (weighted_le (cross_chain p q r) hq (lt→le hr) (lt→le hp) (at_most→cross p q h) (at_most→cross q r k))

  pub before_at_most_trans : T (before p q) → T (not (before r q)) → T (before p r)
  before_at_most_trans h k = cross→before p r (weighted_lt (cross_chain p q r) hq hr (lt→le hp) (before→cross p q h) (at_most→cross q r k))

  pub at_most_before_trans : T (not (before q p)) → T (before q r) → T (before p r)
  at_most_before_trans h k = cross→before p r (weighted_lt' (cross_chain p q r) hq (lt→le hr) hp (at_most→cross p q h) (before→cross q r k))

  pub before_trans : T (before p q) → T (before q r) → T (before p r)
  before_trans h k = before_at_most_trans h (before→at_most q r k)

-- ---- the mediant
pub mediant_proper : (p q : Fraction) → Proper p → Proper q → Proper (mediant p q)
unfolding mediant
mediant_proper p q hp hq = omega (zarith, sum p.den q.den)

pub mediant_after : (p q : Fraction) → T (before p q) → T (before p (mediant p q))
unfolding mediant cross
mediant_after p q h =
    cross→before p (mediant p q) (subst (λ (z : ℤ). z <ℤ pos 0) (ring 4 (λ n d m e. n ⊠ e ⊟ m ⊠ d ≗ n ⊠ (d ⊞ e) ⊟ (n ⊞ m) ⊠ d) tt p.num p.den q.num q.den) (before→cross p q h))

pub mediant-before : (p q : Fraction) → T (before p q) → T (before (mediant p q) q)
unfolding mediant cross
mediant-before p q h =
    cross→before (mediant p q) q (subst (λ (z : ℤ). z <ℤ pos 0) (ring 4 (λ n d m e. n ⊠ e ⊟ m ⊠ d ≗ (n ⊞ m) ⊠ e ⊟ m ⊠ (d ⊞ e)) tt p.num p.den q.num q.den) (before→cross p q h))

-- ---- a·x − b is negative, zero or positive as x is left of, at or right of b/a where a is positive, and the other way round where it is negative
pub root_rising : (a b : ℤ) → pos 0 <ℤ a → root a b ≡ record { num = b; den = a }
unfolding root
root_rising a b h = rw (yes_lt h)

pub root_falling : (a b : ℤ) → a <ℤ pos 0 → root a b ≡ record { num = ⊝ b; den = ⊝ a }
unfolding root
root_falling a b h = rw (no_lt (lt→le h))

pub root_proper : (a b : ℤ) → (a ≡ pos 0 → ⊥) → Proper (root a b)
root_proper a b h =
    elim (lt_or_le (pos 0) a) [
      | inl k ↦ subst Proper (sym (root_rising a b k)) k
      | inr k ↦ elim (lt_or_le a (pos 0)) [ inl l ↦ subst Proper (sym (root_falling a b l)) (neg_gt refl l) | inr l ↦ absurd (h (antisymm k l)) ]
    ]

pub linear_rising : (a b : ℤ) (x : Fraction) → pos 0 <ℤ a → order_of (linear a b x) (pos 0) ≡ order x (root a b)
unfolding linear order
linear_rising a b x h =
    rw (root_rising a b h) (order_by_lem (linear a b x) (pos 0) (x.num ⊗ a) (b ⊗ x.den) (ring 4 (λ a b n d. (a ⊠ n ⊟ b ⊠ d) ⊟ con (pos 0) ≗ n ⊠ a ⊟ b ⊠ d) tt a b x.num x.den))

pub linear_falling : (a b : ℤ) (x : Fraction) → a <ℤ pos 0 → order_of (linear a b x) (pos 0) ≡ order (root a b) x
unfolding linear order
linear_falling a b x h =
    rw (root_falling a b h) (order_by_lem (linear a b x) (pos 0) (⊝ b ⊗ x.den) (x.num ⊗ ⊝ a) (ring 4 (λ a b n d. (a ⊠ n ⊟ b ⊠ d) ⊟ con (pos 0) ≗ minus b ⊠ d ⊟ n ⊠ minus a) tt a b x.num x.den))

-- what `order` and `before` say of each other
pub order_less : (p q : Fraction) → (order p q ≡ Less) ↔ T (before p q)
unfolding order before
order_less p q = ((λ e. ((order_exact Less (p.num ⊗ q.den) (q.num ⊗ p.den)).0 e).lt), (λ h. (order_exact Less (p.num ⊗ q.den) (q.num ⊗ p.den)).1 (lt_z_yes h)))

pub order_greater : (p q : Fraction) → (order p q ≡ Greater) ↔ T (before q p)
unfolding order before
order_greater p q = ((λ e. ((order_exact Greater (p.num ⊗ q.den) (q.num ⊗ p.den)).0 e).lt), (λ h. (order_exact Greater (p.num ⊗ q.den) (q.num ⊗ p.den)).1 (lt_z_yes h)))

pub order_equal : (p q : Fraction) → (order p q ≡ Equal) ↔ (cross p q ≡ pos 0)
unfolding order cross
order_equal p q = (
  (λ e. let k = (order_exact Equal (p.num ⊗ q.den) (q.num ⊗ p.den)).0 e in omega (zarith, difference (p.num ⊗ q.den) (q.num ⊗ p.den))),
  (λ h. (order_exact Equal (p.num ⊗ q.den) (q.num ⊗ p.den)).1 (omega (zarith, h, difference (p.num ⊗ q.den) (q.num ⊗ p.den)))),
)
