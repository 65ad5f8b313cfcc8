-- ℤ as an ordered ring. An inequality is proved by a certificate: `lt_by` or `le_by`, an equation by `ring`, and signs of sums and products.
use mathlib.Core.Path.{◌≡◌, refl, sym, ◌∙◌, ap, ap₂, subst}
use mathlib.Core.Bool.{Bool, true, false, not}
use mathlib.Core.Logic.{◌⊎◌, inl, inr}
use Prim.Native.Nat.{ℕ, zero, suc, ◌+◌, ◌*◌, ◌≤◌, ◌<◌, zero-le}
use native.Mathlib.Nat.{mul-pos, le_antisymm}
use native.Mathlib.Omega.{arith}
use lib.Dec.{T, leb→le, le→leb, ltb→lt, lt→ltb, leb-zero, leb-suc-zero, leb-suc-suc}
use lib.IntN.{ℤ, pos, negsuc, suc_ℤ, pred_ℤ, suc-pred, suc_ℤ-+ℤ}
use lib.Signed.{lt_z, le_z, ◌≤ℤ◌, ◌<ℤ◌, le_z_yes, lt_z_yes, lt_z_no, ≤ℤ_refl, clash_ℤ}
use Rattle.integer.specs.Integer.{◌⊕◌, ◌⊖◌, ◌⊗◌, ⊝◌}
use Rattle.integer.proofs.Laws.{sub_is, add_zero, add_neg, ind, add_suc, add_pred, add_comm}
use Rattle.integer.proofs.Ring.{ring, ◌⊞◌, ◌⊟◌, ◌⊠◌, con, ◌≗◌, sub_zero}

le_z_suc : (a b : ℤ) → le_z (suc_ℤ a) (suc_ℤ b) ≡ le_z a b
le_z_suc (pos a) (pos b) = leb-suc-suc a b
le_z_suc (pos a) (negsuc zero) = leb-suc-zero a
le_z_suc (pos a) (negsuc (suc b)) = refl
le_z_suc (negsuc zero) (pos b) = leb-zero (suc b)
le_z_suc (negsuc (suc a)) (pos b) = refl
le_z_suc (negsuc zero) (negsuc zero) = refl
le_z_suc (negsuc zero) (negsuc (suc b)) = sym (leb-suc-zero b)
le_z_suc (negsuc (suc a)) (negsuc zero) = sym (leb-zero (suc a))
le_z_suc (negsuc (suc a)) (negsuc (suc b)) = sym (leb-suc-suc b a)

lt_z_le_z : (a b : ℤ) → lt_z a b ≡ le_z (suc_ℤ a) b
lt_z_le_z (pos a) (pos b) = refl
lt_z_le_z (pos a) (negsuc b) = refl
lt_z_le_z (negsuc zero) (pos b) = sym (leb-zero b)
lt_z_le_z (negsuc (suc a)) (pos b) = refl
lt_z_le_z (negsuc zero) (negsuc b) = leb-suc-zero b
lt_z_le_z (negsuc (suc a)) (negsuc b) = leb-suc-suc b a

le_z_shift : (a b c : ℤ) → le_z (a ⊕ c) (b ⊕ c) ≡ le_z a b
le_z_shift a b c = ind (λ (x : ℤ). le_z (a ⊕ x) (b ⊕ x) ≡ le_z a b)
    (ap₂ le_z (add_zero a) (add_zero b))
    (λ k h. ap₂ le_z (add_suc a k) (add_suc b k) ∙ le_z_suc (a ⊕ k) (b ⊕ k) ∙ h)
    (λ k h. ap₂ le_z (add_pred a k) (add_pred b k) ∙ sym (le_z_suc (pred_ℤ (a ⊕ k)) (pred_ℤ (b ⊕ k))) ∙ ap₂ le_z (suc-pred (a ⊕ k)) (suc-pred (b ⊕ k)) ∙ h)
    c

lt_z_shift : (a b c : ℤ) → lt_z (a ⊕ c) (b ⊕ c) ≡ lt_z a b
unfolding ◌⊕◌
lt_z_shift a b c = lt_z_le_z (a ⊕ c) (b ⊕ c) ∙ ap (λ (x : ℤ). le_z x (b ⊕ c)) (sym (suc_ℤ-+ℤ a c)) ∙ le_z_shift (suc_ℤ a) b c ∙ sym (lt_z_le_z a b)

pub le_sub : (a b : ℤ) → le_z (pos 0) (b ⊖ a) ≡ le_z a b
le_sub a b = ap₂ le_z (sym (add_neg a)) (sub_is b a) ∙ le_z_shift a b (⊝ a)

pub lt_sub : (a b : ℤ) → lt_z (pos 0) (b ⊖ a) ≡ lt_z a b
lt_sub a b = ap₂ lt_z (sym (add_neg a)) (sub_is b a) ∙ lt_z_shift a b (⊝ a)

-- ---- a fact as a sign, and back: `le_by (ring ..) h`
pub le→nonneg : {a b : ℤ} → a ≤ℤ b → pos 0 ≤ℤ b ⊖ a
le→nonneg {a} {b} h = le_z_yes (subst T (sym (le_sub a b)) h.le)

pub lt→positive : {a b : ℤ} → a <ℤ b → pos 0 <ℤ b ⊖ a
lt→positive {a} {b} h = lt_z_yes (subst T (sym (lt_sub a b)) h.lt)

pub le_by : {a b h : ℤ} → h ≡ b ⊖ a → pos 0 ≤ℤ h → a ≤ℤ b
le_by {a} {b} {h} e k = le_z_yes (subst T (le_sub a b) (subst (λ (x : ℤ). T (le_z (pos 0) x)) e k.le))

pub lt_by : {a b h : ℤ} → h ≡ b ⊖ a → pos 0 <ℤ h → a <ℤ b
lt_by {a} {b} {h} e k = lt_z_yes (subst T (lt_sub a b) (subst (λ (x : ℤ). T (lt_z (pos 0) x)) e k.lt))

pub nonneg_is : {a b : ℤ} → a ≡ b → pos 0 ≤ℤ a → pos 0 ≤ℤ b
nonneg_is e h = subst (λ (x : ℤ). pos 0 ≤ℤ x) e h

pub positive_is : {a b : ℤ} → a ≡ b → pos 0 <ℤ a → pos 0 <ℤ b
positive_is e h = subst (λ (x : ℤ). pos 0 <ℤ x) e h

-- ---- the signs of sums and products
nonneg_add' : (a b : ℤ) → T (le_z (pos 0) a) → T (le_z (pos 0) b) → T (le_z (pos 0) (a ⊕ b))
unfolding ◌⊕◌
nonneg_add' (pos a) (pos b) h k = le→leb 0 (a + b) zero-le
nonneg_add' (pos a) (negsuc b) h k = absurd k
nonneg_add' (negsuc a) b h k = absurd h

nonneg_mul' : (a b : ℤ) → T (le_z (pos 0) a) → T (le_z (pos 0) b) → T (le_z (pos 0) (a ⊗ b))
unfolding ◌⊗◌
nonneg_mul' (pos a) (pos b) h k = le→leb 0 (a * b) zero-le
nonneg_mul' (pos a) (negsuc b) h k = absurd k
nonneg_mul' (negsuc a) b h k = absurd h

positive_add' : (a b : ℤ) → T (lt_z (pos 0) a) → T (le_z (pos 0) b) → T (lt_z (pos 0) (a ⊕ b))
unfolding ◌⊕◌
positive_add' (pos a) (pos b) h k = lt→ltb 0 (a + b) (pos_sum a b (ltb→lt 0 a h))
  where
    pos_sum : (a b : ℕ) → 0 < a → 0 < a + b
    pos_sum a b h = omega arith
positive_add' (pos a) (negsuc b) h k = absurd k
positive_add' (negsuc a) b h k = absurd h

positive_mul' : (a b : ℤ) → T (lt_z (pos 0) a) → T (lt_z (pos 0) b) → T (lt_z (pos 0) (a ⊗ b))
unfolding ◌⊗◌
positive_mul' (pos a) (pos b) h k = lt→ltb 0 (a * b) (mul-pos (ltb→lt 0 a h) (ltb→lt 0 b k))
positive_mul' (pos a) (negsuc b) h k = absurd k
positive_mul' (negsuc a) b h k = absurd h

lt→le' : (a b : ℤ) → T (lt_z a b) → T (le_z a b)
lt→le' (pos a) (pos b) h = le→leb a b (down a b (ltb→lt a b h))
  where
    down : (a b : ℕ) → a < b → a ≤ b
    down a b h = omega arith
lt→le' (pos a) (negsuc b) h = absurd h
lt→le' (negsuc a) (pos b) h = tt
lt→le' (negsuc a) (negsuc b) h = le→leb b a (down a b (ltb→lt b a h))
  where
    down : (a b : ℕ) → b < a → b ≤ a
    down a b h = omega arith

pub lt→le : {a b : ℤ} → a <ℤ b → a ≤ℤ b
lt→le {a} {b} h = le_z_yes (lt→le' a b h.lt)

pub nonneg_add : {a b : ℤ} → pos 0 ≤ℤ a → pos 0 ≤ℤ b → pos 0 ≤ℤ a ⊕ b
nonneg_add {a} {b} h k = le_z_yes (nonneg_add' a b h.le k.le)

pub nonneg_mul : {a b : ℤ} → pos 0 ≤ℤ a → pos 0 ≤ℤ b → pos 0 ≤ℤ a ⊗ b
nonneg_mul {a} {b} h k = le_z_yes (nonneg_mul' a b h.le k.le)

-- one of the two strict
pub positive_nonneg_add : {a b : ℤ} → pos 0 <ℤ a → pos 0 ≤ℤ b → pos 0 <ℤ a ⊕ b
positive_nonneg_add {a} {b} h k = lt_z_yes (positive_add' a b h.lt k.le)

pub positive_add : {a b : ℤ} → pos 0 <ℤ a → pos 0 <ℤ b → pos 0 <ℤ a ⊕ b
positive_add h k = positive_nonneg_add h (lt→le k)

pub positive_mul : {a b : ℤ} → pos 0 <ℤ a → pos 0 <ℤ b → pos 0 <ℤ a ⊗ b
positive_mul {a} {b} h k = lt_z_yes (positive_mul' a b h.lt k.lt)

-- ---- one of the two, or three, orders holds
pub lt_or_le : (a b : ℤ) → (a <ℤ b) ⊎ (b ≤ℤ a)
lt_or_le a b = go (lt_z a b) refl
  where
    go : (t : Bool) → lt_z a b ≡ t → (a <ℤ b) ⊎ (b ≤ℤ a)
    go true e = inl (lt_z_yes (subst T (sym e) tt))
    go false e = inr (lt_z_no (subst (λ (x : Bool). T (not x)) (sym e) tt))

antisymm' : (a b : ℤ) → T (le_z a b) → T (le_z b a) → a ≡ b
antisymm' (pos a) (pos b) h k = ap pos (le_antisymm (leb→le a b h) (leb→le b a k))
antisymm' (pos a) (negsuc b) h k = absurd h
antisymm' (negsuc a) (pos b) h k = absurd k
antisymm' (negsuc a) (negsuc b) h k = ap negsuc (le_antisymm (leb→le a b k) (leb→le b a h))

pub antisymm : {a b : ℤ} → a ≤ℤ b → b ≤ℤ a → a ≡ b
antisymm {a} {b} h k = antisymm' a b h.le k.le

pub trichotomy : (a b : ℤ) → (a <ℤ b) ⊎ ((a ≡ b) ⊎ (b <ℤ a))
trichotomy a b = elim (lt_or_le a b) [ inl h ↦ inl h | inr h ↦ elim (lt_or_le b a) [ inl k ↦ inr (inr k) | inr k ↦ inr (inl (antisymm k h)) ] ]

-- ---- chains
pub le_trans : {a b c : ℤ} → a ≤ℤ b → b ≤ℤ c → a ≤ℤ c
le_trans {a} {b} {c} h k = le_by (ring 3 (λ a b c. (b ⊟ a) ⊞ (c ⊟ b) ≗ c ⊟ a) tt a b c) (nonneg_add (le→nonneg h) (le→nonneg k))

pub lt_le_trans : {a b c : ℤ} → a <ℤ b → b ≤ℤ c → a <ℤ c
lt_le_trans {a} {b} {c} h k = lt_by (ring 3 (λ a b c. (b ⊟ a) ⊞ (c ⊟ b) ≗ c ⊟ a) tt a b c) (positive_nonneg_add (lt→positive h) (le→nonneg k))

pub le_lt_trans : {a b c : ℤ} → a ≤ℤ b → b <ℤ c → a <ℤ c
le_lt_trans {a} {b} {c} h k = lt_by (ring 3 (λ a b c. (c ⊟ b) ⊞ (b ⊟ a) ≗ c ⊟ a) tt a b c) (positive_nonneg_add (lt→positive k) (le→nonneg h))

pub lt_trans : {a b c : ℤ} → a <ℤ b → b <ℤ c → a <ℤ c
lt_trans h k = lt_le_trans h (lt→le k)

-- ---- a positive factor is cancelled
pub positive_cancel : {c a : ℤ} → pos 0 <ℤ c → pos 0 <ℤ c ⊗ a → pos 0 <ℤ a
positive_cancel {c} {a} h k = elim (lt_or_le (pos 0) a) [ inl t ↦ t | inr t ↦ clash_ℤ k (le_by (ring 2 (λ c a. c ⊠ (con (pos 0) ⊟ a) ≗ con (pos 0) ⊟ c ⊠ a) tt c a) (nonneg_mul (lt→le h) (le→nonneg t))) ]

pub nonneg_cancel : {c a : ℤ} → pos 0 <ℤ c → pos 0 ≤ℤ c ⊗ a → pos 0 ≤ℤ a
nonneg_cancel {c} {a} h k = elim (lt_or_le a (pos 0)) [ inr t ↦ t | inl t ↦ clash_ℤ (lt_by (ring 2 (λ c a. c ⊠ (con (pos 0) ⊟ a) ≗ con (pos 0) ⊟ c ⊠ a) tt c a) (positive_mul h (lt→positive t))) k ]

-- `search signs` proves that a sum of products is positive, or not negative, from facts about its parts: `lt_by (ring ..) (search signs)`
pub ruleset signs = (positive_mul, positive_add, positive_nonneg_add, nonneg_add, nonneg_mul, lt→positive, le→nonneg, lt→le)

-- ---- after cancelling a positive factor k: `lt_over h (ring ..) (search signs)`
pub lt_over : {k a b h : ℤ} → pos 0 <ℤ k → h ≡ k ⊗ (b ⊖ a) → pos 0 <ℤ h → a <ℤ b
lt_over hk e hh = lt_by refl (positive_cancel hk (positive_is e hh))

pub le_over : {k a b h : ℤ} → pos 0 <ℤ k → h ≡ k ⊗ (b ⊖ a) → pos 0 ≤ℤ h → a ≤ℤ b
le_over hk e hh = le_by refl (nonneg_cancel hk (nonneg_is e hh))

-- ---- equations: a ≡ b from p ≡ q, where a − b is k(p − q) by `ring`
pub eq_by : {a b p q : ℤ} (k : ℤ) → a ⊖ b ≡ k ⊗ (p ⊖ q) → p ≡ q → a ≡ b
eq_by {a} {b} {p} {q} k e h = sub_zero a b (e ∙ ap (λ (x : ℤ). k ⊗ (x ⊖ q)) h ∙ ring 2 (λ k q. k ⊠ (q ⊟ q) ≗ con (pos 0)) tt k q)

-- a common factor that is positive
pub eq_over : {k a b : ℤ} → pos 0 <ℤ k → k ⊗ a ≡ k ⊗ b → a ≡ b
eq_over {k} {a} {b} hk e =
    antisymm (le_by refl (nonneg_cancel hk (nonneg_is (z a b) (subst (λ (x : ℤ). pos 0 ≤ℤ x ⊖ k ⊗ a) e (le→nonneg (≤ℤ_refl (k ⊗ a))))))) (le_by refl (nonneg_cancel hk (nonneg_is (z b a) (subst (λ (x : ℤ). pos 0 ≤ℤ k ⊗ a ⊖ x) e (le→nonneg (≤ℤ_refl (k ⊗ a)))))))
  where
    z : (a b : ℤ) → k ⊗ b ⊖ k ⊗ a ≡ k ⊗ (b ⊖ a)
    z a b = ring 3 (λ k a b. k ⊠ b ⊟ k ⊠ a ≗ k ⊠ (b ⊟ a)) tt k a b

-- ---- the sign of r from those of a and b, where w·r = u·a + v·b: each chain of an order and each linear function is one of these
turned : (w r u a v b : ℤ) → w ⊗ r ≡ u ⊗ a ⊕ v ⊗ b → u ⊗ (pos 0 ⊖ a) ⊕ v ⊗ (pos 0 ⊖ b) ≡ w ⊗ (pos 0 ⊖ r)
turned w r u a v b e =
    eq_by (pos 1) (ring 6 (λ w r u a v b. (u ⊠ (con (pos 0) ⊟ a) ⊞ v ⊠ (con (pos 0) ⊟ b)) ⊟ w ⊠ (con (pos 0) ⊟ r) ≗ con (pos 1) ⊠ (w ⊠ r ⊟ (u ⊠ a ⊞ v ⊠ b))) tt w r u a v b) e

module _ {w r u a v b : ℤ} where
  pub weighted_le : w ⊗ r ≡ u ⊗ a ⊕ v ⊗ b → pos 0 <ℤ w → pos 0 ≤ℤ u → pos 0 ≤ℤ v → a ≤ℤ pos 0 → b ≤ℤ pos 0 → r ≤ℤ pos 0
  weighted_le e hw hu hv ha hb = le_over hw (turned w r u a v b e) (nonneg_add (nonneg_mul hu (le→nonneg ha)) (nonneg_mul hv (le→nonneg hb)))

  -- with the first summand strict, and with the second
  pub weighted_lt : w ⊗ r ≡ u ⊗ a ⊕ v ⊗ b → pos 0 <ℤ w → pos 0 <ℤ u → pos 0 ≤ℤ v → a <ℤ pos 0 → b ≤ℤ pos 0 → r <ℤ pos 0
  weighted_lt e hw hu hv ha hb = lt_over hw (turned w r u a v b e) (positive_nonneg_add (positive_mul hu (lt→positive ha)) (nonneg_mul hv (le→nonneg hb)))

  pub weighted_lt' : w ⊗ r ≡ u ⊗ a ⊕ v ⊗ b → pos 0 <ℤ w → pos 0 ≤ℤ u → pos 0 <ℤ v → a ≤ℤ pos 0 → b <ℤ pos 0 → r <ℤ pos 0
  weighted_lt' e hw hu hv ha hb =
      lt_over hw (add_comm (v ⊗ (pos 0 ⊖ b)) (u ⊗ (pos 0 ⊖ a)) ∙ turned w r u a v b e) (positive_nonneg_add (positive_mul hv (lt→positive hb)) (nonneg_mul hu (le→nonneg ha)))
