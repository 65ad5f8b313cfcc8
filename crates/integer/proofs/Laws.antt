-- ℤ as a commutative ring, with the induction that goes up and down by one.
use mathlib.Core.Path.{◌≡◌, refl, sym, ◌∙◌, ap, subst}
use lib.IntN.{ℤ, pos, suc_ℤ, pred_ℤ, neg_ℤ, ℤ_ind, +ℤ_assoc, +ℤ_comm, +ℤ_idl, +ℤ_idr, +ℤ_invr, +ℤ_one, -ℤ_one, +ℤ-suc_ℤ, +ℤ-pred_ℤ, suc_ℤ-*ℤ, pred_ℤ-*ℤ, *ℤ_comm, *ℤ-zero, zero-*ℤ, *ℤ-one, one, neg_ℤ-neg_ℤ, neg_ℤ-+ℤ}
use Rattle.integer.specs.Integer.{◌⊕◌, ◌⊖◌, ◌⊗◌, ⊝◌}

pub sub_is : (a b : ℤ) → a ⊖ b ≡ a ⊕ ⊝ b
unfolding ◌⊕◌ ◌⊖◌ ⊝◌
sub_is a b = refl

pub add_assoc : (a b c : ℤ) → (a ⊕ b) ⊕ c ≡ a ⊕ (b ⊕ c)
unfolding ◌⊕◌
add_assoc a b c = +ℤ_assoc a b c

pub add_comm : (a b : ℤ) → a ⊕ b ≡ b ⊕ a
unfolding ◌⊕◌
add_comm a b = +ℤ_comm a b

pub zero_add : (a : ℤ) → pos 0 ⊕ a ≡ a
unfolding ◌⊕◌
zero_add a = +ℤ_idl a

pub add_zero : (a : ℤ) → a ⊕ pos 0 ≡ a
unfolding ◌⊕◌
add_zero a = +ℤ_idr a

pub add_neg : (a : ℤ) → a ⊕ ⊝ a ≡ pos 0
unfolding ◌⊕◌ ⊝◌
add_neg a = +ℤ_invr a

pub mul_comm : (a b : ℤ) → a ⊗ b ≡ b ⊗ a
unfolding ◌⊗◌
mul_comm a b = *ℤ_comm a b

pub mul_zero : (a : ℤ) → a ⊗ pos 0 ≡ pos 0
unfolding ◌⊗◌
mul_zero a = *ℤ-zero a

pub zero_mul : (a : ℤ) → pos 0 ⊗ a ≡ pos 0
unfolding ◌⊗◌
zero_mul a = zero-*ℤ a

pub mul_one : (a : ℤ) → a ⊗ pos 1 ≡ a
unfolding ◌⊗◌ one
mul_one a = *ℤ-one a

suc_mul : (a b : ℤ) → suc_ℤ a ⊗ b ≡ a ⊗ b ⊕ b
unfolding ◌⊗◌ ◌⊕◌
suc_mul a b = suc_ℤ-*ℤ a b

pred_mul : (a b : ℤ) → pred_ℤ a ⊗ b ≡ a ⊗ b ⊕ ⊝ b
unfolding ◌⊗◌ ◌⊕◌ ⊝◌
pred_mul a b = pred_ℤ-*ℤ a b

pub add_suc : (a b : ℤ) → a ⊕ suc_ℤ b ≡ suc_ℤ (a ⊕ b)
unfolding ◌⊕◌
add_suc a b = +ℤ-suc_ℤ a b

pub add_pred : (a b : ℤ) → a ⊕ pred_ℤ b ≡ pred_ℤ (a ⊕ b)
unfolding ◌⊕◌
add_pred a b = +ℤ-pred_ℤ a b

-- what holds of 0, and goes up and down by one, holds of each integer
pub ind : (P : ℤ → Type 0) → P (pos 0) → ((k : ℤ) → P k → P (suc_ℤ k)) → ((k : ℤ) → P k → P (pred_ℤ k)) → (k : ℤ) → P k
ind P z s p = ℤ_ind P z (λ n h. subst P (sym (+ℤ_one (pos n))) (s (pos n) h)) (λ n h. subst P (sym (-ℤ_one (neg_ℤ (pos n)))) (p (neg_ℤ (pos n)) h))

pub add_mul : (a b c : ℤ) → (a ⊕ b) ⊗ c ≡ a ⊗ c ⊕ b ⊗ c
add_mul a b c = ind (λ (x : ℤ). (a ⊕ x) ⊗ c ≡ a ⊗ c ⊕ x ⊗ c)
    (ap (λ (x : ℤ). x ⊗ c) (add_zero a) ∙ sym (add_zero (a ⊗ c)) ∙ ap (λ (x : ℤ). a ⊗ c ⊕ x) (sym (zero_mul c)))
    (λ k h. ap (λ (x : ℤ). x ⊗ c) (add_suc a k) ∙ suc_mul (a ⊕ k) c ∙ ap (λ (x : ℤ). x ⊕ c) h ∙ add_assoc (a ⊗ c) (k ⊗ c) c ∙ ap (λ (x : ℤ). a ⊗ c ⊕ x) (sym (suc_mul k c)))
    (λ k h. ap (λ (x : ℤ). x ⊗ c) (add_pred a k) ∙ pred_mul (a ⊕ k) c ∙ ap (λ (x : ℤ). x ⊕ ⊝ c) h ∙ add_assoc (a ⊗ c) (k ⊗ c) (⊝ c) ∙ ap (λ (x : ℤ). a ⊗ c ⊕ x) (sym (pred_mul k c)))
    b

pub mul_add : (a b c : ℤ) → a ⊗ (b ⊕ c) ≡ a ⊗ b ⊕ a ⊗ c
mul_add a b c = mul_comm a (b ⊕ c) ∙ add_mul b c a ∙ ap (λ (x : ℤ). x ⊕ c ⊗ a) (mul_comm b a) ∙ ap (λ (x : ℤ). a ⊗ b ⊕ x) (mul_comm c a)

-- inverses are unique
neg_unique : (a b : ℤ) → a ⊕ b ≡ pos 0 → b ≡ ⊝ a
neg_unique a b h =
    sym (add_zero b) ∙ ap (λ (x : ℤ). b ⊕ x) (sym (add_neg a)) ∙ sym (add_assoc b a (⊝ a)) ∙ ap (λ (x : ℤ). x ⊕ ⊝ a) (add_comm b a ∙ h) ∙ zero_add (⊝ a)

pub neg_mul : (a b : ℤ) → ⊝ a ⊗ b ≡ ⊝ (a ⊗ b)
neg_mul a b = neg_unique (a ⊗ b) (⊝ a ⊗ b) (sym (add_mul a (⊝ a) b) ∙ ap (λ (x : ℤ). x ⊗ b) (add_neg a) ∙ zero_mul b)

pub neg_add : (a b : ℤ) → ⊝ (a ⊕ b) ≡ ⊝ a ⊕ ⊝ b
unfolding ◌⊕◌ ⊝◌
neg_add a b = neg_ℤ-+ℤ a b

pub neg_neg : (a : ℤ) → ⊝ (⊝ a) ≡ a
unfolding ⊝◌
neg_neg a = neg_ℤ-neg_ℤ a

pub mul_assoc : (a b c : ℤ) → (a ⊗ b) ⊗ c ≡ a ⊗ (b ⊗ c)
mul_assoc a b c = ind (λ (x : ℤ). (x ⊗ b) ⊗ c ≡ x ⊗ (b ⊗ c))
    (ap (λ (x : ℤ). x ⊗ c) (zero_mul b) ∙ zero_mul c ∙ sym (zero_mul (b ⊗ c)))
    (λ k h. ap (λ (x : ℤ). x ⊗ c) (suc_mul k b) ∙ add_mul (k ⊗ b) b c ∙ ap (λ (x : ℤ). x ⊕ b ⊗ c) h ∙ sym (suc_mul k (b ⊗ c)))
    (λ k h. ap (λ (x : ℤ). x ⊗ c) (pred_mul k b) ∙ add_mul (k ⊗ b) (⊝ b) c ∙ ap (λ (x : ℤ). x ⊕ ⊝ b ⊗ c) h ∙ ap (λ (x : ℤ). k ⊗ (b ⊗ c) ⊕ x) (neg_mul b c) ∙ sym (pred_mul k (b ⊗ c)))
    a
