-- Magnitudes (`nat_abs`, which `omega` reads) of sums, differences and products, over any bound.
use mathlib.Core.Path.{◌≡◌, refl, sym, subst}
use mathlib.Core.Bool.{Bool, true, false, not, cond}
use Prim.Native.Nat.{ℕ, zero, suc, ◌+◌, ◌*◌, ◌-◌, ◌≤◌, ◌<◌}
use native.Mathlib.Nat as NatL
use native.Mathlib.Omega.{arith}
use lib.Dec.{T, ltb, ltb→lt}
use lib.IntN.{ℤ, pos, negsuc, neg_ℤ, nat_abs, sub_ℕ}
use lib.Signed.{mag}
use Rattle.integer.specs.Integer.{◌⊕◌, ◌⊖◌, ◌⊗◌, ⊝◌}
use Rattle.integer.proofs.Laws.{sub_is}

cond_le : (t : Bool) (x y : ℤ) (n : ℕ) → (T t → nat_abs x ≤ n) → (T (not t) → nat_abs y ≤ n) → nat_abs (cond t x y) ≤ n
cond_le true x y n f g = f tt
cond_le false x y n f g = g tt

sub_size : (a b : ℕ) → nat_abs (sub_ℕ a b) ≤ a + b
sub_size a b = cond_le (ltb a b) (negsuc (b - suc a)) (pos (a - b)) (a + b) (λ t. less a b (ltb→lt a b t)) (λ t. more a b)
  where
    less : (a b : ℕ) → a < b → suc (b - suc a) ≤ a + b
    less a b h = omega arith

    more : (a b : ℕ) → a - b ≤ a + b
    more a b = omega arith

pub add_magnitude : (a b : ℤ) → nat_abs (a ⊕ b) ≤ nat_abs a + nat_abs b
unfolding ◌⊕◌
add_magnitude (pos a) (pos b) = NatL.le_refl (a + b)
add_magnitude (pos a) (negsuc b) = sub_size a (suc b)
add_magnitude (negsuc a) (pos b) = turn (nat_abs (sub_ℕ b (suc a))) a b (sub_size b (suc a))
  where
    turn : (n a b : ℕ) → n ≤ b + suc a → n ≤ suc a + b
    turn n a b h = omega arith
add_magnitude (negsuc a) (negsuc b) = both a b
  where
    both : (a b : ℕ) → suc (suc (a + b)) ≤ suc a + suc b
    both a b = omega arith

pub neg_magnitude : (a : ℤ) → nat_abs (⊝ a) ≡ nat_abs a
unfolding ⊝◌
neg_magnitude (pos zero) = refl
neg_magnitude (pos (suc n)) = refl
neg_magnitude (negsuc n) = refl

pub sub_magnitude : (a b : ℤ) → nat_abs (a ⊖ b) ≤ nat_abs a + nat_abs b
sub_magnitude a b = subst (λ (z : ℤ). nat_abs z ≤ nat_abs a + nat_abs b) (sym (sub_is a b)) (subst (λ (n : ℕ). nat_abs (a ⊕ ⊝ b) ≤ nat_abs a + n) (neg_magnitude b) (add_magnitude a (⊝ b)))

neg_pos : (n : ℕ) → nat_abs (neg_ℤ (pos n)) ≡ n
neg_pos zero = refl
neg_pos (suc n) = refl

pub mul_magnitude : (a b : ℤ) → nat_abs (a ⊗ b) ≡ nat_abs a * nat_abs b
unfolding ◌⊗◌
mul_magnitude (pos a) (pos b) = refl
mul_magnitude (pos a) (negsuc b) = neg_pos (a * suc b)
mul_magnitude (negsuc a) (pos b) = neg_pos (suc a * b)
mul_magnitude (negsuc a) (negsuc b) = refl

-- `mag`, by which a width's range is given, is at most the magnitude
pub mag_le : (z : ℤ) → mag z ≤ nat_abs z
mag_le (pos n) = NatL.le_refl n
mag_le (negsuc n) = NatL.le-suc n

-- ---- bounds composed: `within_sub (within_mul h k) (within_mul i j) : (a ⊗ b ⊖ c ⊗ d) within (k * l + m * n)`
infix 50 ◌within◌
pub record ◌within◌ (z : ℤ) (n : ℕ) : Type 0 where
  pub size : nat_abs z ≤ n

pub within_add : {a b : ℤ} {m n : ℕ} → a within m → b within n → (a ⊕ b) within (m + n)
within_add {a} {b} h k = record { size = NatL.le_trans (add_magnitude a b) (NatL.add-le-add h.size k.size) }

pub within_sub : {a b : ℤ} {m n : ℕ} → a within m → b within n → (a ⊖ b) within (m + n)
within_sub {a} {b} h k = record { size = NatL.le_trans (sub_magnitude a b) (NatL.add-le-add h.size k.size) }

pub within_mul : {a b : ℤ} {m n : ℕ} → a within m → b within n → (a ⊗ b) within (m * n)
within_mul {a} {b} {m} {n} h k = record { size = subst (λ (s : ℕ). s ≤ m * n) (sym (mul_magnitude a b)) (NatL.mul-le-mul h.size k.size) }

pub within_neg : {a : ℤ} {m : ℕ} → a within m → (⊝ a) within m
within_neg {a} {m} h = record { size = subst (λ (s : ℕ). s ≤ m) (sym (neg_magnitude a)) h.size }

pub within_more : {a : ℤ} {m n : ℕ} → a within m → m ≤ n → a within n
within_more h k = record { size = NatL.le_trans h.size k }

-- of a result r, from what a call ensures of it
pub within_is : {r a : ℤ} {m : ℕ} → r ≡ a → a within m → r within m
within_is {r} {a} {m} e h = subst (λ (z : ℤ). z within m) (sym e) h

-- a difference of two products, as determinants are
pub within_minor : {a b c d : ℤ} {m n : ℕ} → a within m → b within n → c within m → d within n → (a ⊗ b ⊖ c ⊗ d) within (2 * (m * n))
within_minor h k i j = within_more (within_sub (within_mul h k) (within_mul i j)) (omega arith)
