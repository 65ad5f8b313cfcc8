-- Linear arithmetic over ℤ by `omega`. A number z is the difference of two naturals, p⁺ z − p⁻ z. `zarith` reads and proves `≤ℤ`, `<ℤ` and
-- equations; each compound term is listed once by its law, `omega (zarith, sum a b, difference c d)`, or a whole expression by `lin`.
use mathlib.Core.Path.{◌≡◌, refl, sym, ◌∙◌, ap, subst}
use mathlib.Core.Bool.{Bool, true, false, not, cond}
use mathlib.Core.List.{List, [], ◌∷◌}
use Prim.Native.Nat.{ℕ, zero, suc, ◌+◌, ◌*◌, ◌-◌, ◌≤◌, ◌<◌, max}
use native.Mathlib.Nat as NatL
use native.Mathlib.Omega.{arith}
use lib.Dec.{T, ltb, leb→le, le→leb, ltb→lt, lt→ltb, nltb→le}
use lib.IntN.{ℤ, pos, negsuc, neg_ℤ, nat_abs, sub_ℕ}
use lib.Signed.{le_z, lt_z, ◌≤ℤ◌, ◌<ℤ◌, le_z_yes, lt_z_yes}
use Rattle.integer.specs.Integer.{◌⊕◌, ◌⊖◌, ◌⊗◌, ⊝◌}
use Rattle.integer.proofs.Laws.{sub_is}
use Rattle.integer.proofs.Order.{antisymm}
use Rattle.integer.proofs.Ring.{Expr, var, con, ◌⊞◌, ◌⊟◌, ◌⊠◌, minus, eval, nth}

abbrev pub p⁺ : ℤ → ℕ
p⁺ (pos n) = n
p⁺ (negsuc n) = 0

abbrev pub p⁻ : ℤ → ℕ
p⁻ (pos n) = 0
p⁻ (negsuc n) = suc n

le_n' : (a b : ℤ) → T (le_z a b) → p⁺ a + p⁻ b ≤ p⁺ b + p⁻ a
le_n' (pos a) (pos b) h = let k = leb→le a b h in omega arith
le_n' (pos a) (negsuc b) h = absurd h
le_n' (negsuc a) (pos b) h = omega arith
le_n' (negsuc a) (negsuc b) h = let k = leb→le b a h in omega arith

n_le' : (a b : ℤ) → p⁺ a + p⁻ b ≤ p⁺ b + p⁻ a → T (le_z a b)
n_le' (pos a) (pos b) h = le→leb a b (omega arith)
n_le' (pos a) (negsuc b) h = no a b h
  where
    no : (a b : ℕ) → a + suc b ≤ 0 + 0 → ⊥
    no a b h = omega arith
n_le' (negsuc a) (pos b) h = tt
n_le' (negsuc a) (negsuc b) h = le→leb b a (omega arith)

lt_n' : (a b : ℤ) → T (lt_z a b) → p⁺ a + p⁻ b < p⁺ b + p⁻ a
lt_n' (pos a) (pos b) h = let k = ltb→lt a b h in omega arith
lt_n' (pos a) (negsuc b) h = absurd h
lt_n' (negsuc a) (pos b) h = omega arith
lt_n' (negsuc a) (negsuc b) h = let k = ltb→lt b a h in omega arith

n_lt' : (a b : ℤ) → p⁺ a + p⁻ b < p⁺ b + p⁻ a → T (lt_z a b)
n_lt' (pos a) (pos b) h = lt→ltb a b (omega arith)
n_lt' (pos a) (negsuc b) h = no a b h
  where
    no : (a b : ℕ) → a + suc b < 0 + 0 → ⊥
    no a b h = omega arith
n_lt' (negsuc a) (pos b) h = tt
n_lt' (negsuc a) (negsuc b) h = lt→ltb b a (omega arith)

pub le_n : {a b : ℤ} → a ≤ℤ b → p⁺ a + p⁻ b ≤ p⁺ b + p⁻ a
le_n {a} {b} h = le_n' a b h.le

pub n_le : {a b : ℤ} → p⁺ a + p⁻ b ≤ p⁺ b + p⁻ a → a ≤ℤ b
n_le {a} {b} h = le_z_yes (n_le' a b h)

pub lt_n : {a b : ℤ} → a <ℤ b → p⁺ a + p⁻ b < p⁺ b + p⁻ a
lt_n {a} {b} h = lt_n' a b h.lt

pub n_lt : {a b : ℤ} → p⁺ a + p⁻ b < p⁺ b + p⁻ a → a <ℤ b
n_lt {a} {b} h = lt_z_yes (n_lt' a b h)

-- ---- compound terms
cond_n : (t : Bool) (x y : ℤ) (m n : ℕ) → (T t → p⁺ x + n ≡ p⁻ x + m) → (T (not t) → p⁺ y + n ≡ p⁻ y + m) → p⁺ (cond t x y) + n ≡ p⁻ (cond t x y) + m
cond_n true x y m n f g = f tt
cond_n false x y m n f g = g tt

sub_n : (a b : ℕ) → p⁺ (sub_ℕ a b) + b ≡ p⁻ (sub_ℕ a b) + a
sub_n a b = cond_n (ltb a b) (negsuc (b - suc a)) (pos (a - b)) a b (λ t. less a b (ltb→lt a b t)) (λ t. more a b (nltb→le a b t))
  where
    less : (a b : ℕ) → a < b → 0 + b ≡ suc (b - suc a) + a
    less a b h = omega arith

    more : (a b : ℕ) → b ≤ a → (a - b) + b ≡ 0 + a
    more a b h = omega arith

pub sum : (a b : ℤ) → p⁺ (a ⊕ b) + (p⁻ a + p⁻ b) ≡ p⁻ (a ⊕ b) + (p⁺ a + p⁺ b)
unfolding ◌⊕◌
sum (pos a) (pos b) = omega arith
sum (pos a) (negsuc b) = omega (arith, sub_n a (suc b))
sum (negsuc a) (pos b) = omega (arith, sub_n b (suc a))
sum (negsuc a) (negsuc b) = omega arith

pub minus⁺ : (a : ℤ) → p⁺ (⊝ a) ≡ p⁻ a
unfolding ⊝◌
minus⁺ (pos zero) = refl
minus⁺ (pos (suc n)) = refl
minus⁺ (negsuc n) = refl

pub minus⁻ : (a : ℤ) → p⁻ (⊝ a) ≡ p⁺ a
unfolding ⊝◌
minus⁻ (pos zero) = refl
minus⁻ (pos (suc n)) = refl
minus⁻ (negsuc n) = refl

pub difference : (a b : ℤ) → p⁺ (a ⊖ b) + (p⁻ a + p⁺ b) ≡ p⁻ (a ⊖ b) + (p⁺ a + p⁻ b)
difference a b = subst (λ (z : ℤ). p⁺ z + (p⁻ a + p⁺ b) ≡ p⁻ z + (p⁺ a + p⁻ b)) (sym (sub_is a b)) (omega (arith, sum a (⊝ b), minus⁺ b, minus⁻ b))

pub parts : (a : ℤ) → nat_abs a ≡ p⁺ a + p⁻ a
parts (pos n) = omega arith
parts (negsuc n) = omega arith

-- one of the two parts is nothing, as `omega` reads it: the size is at most the larger
pub one_part : (a : ℤ) → p⁺ a + p⁻ a ≤ max (p⁺ a) (p⁻ a)
one_part (pos n) = omega arith
one_part (negsuc n) = omega arith

pub n_eq : {a b : ℤ} → p⁺ a + p⁻ b ≡ p⁺ b + p⁻ a → a ≡ b
n_eq {a} {b} h = antisymm (n_le (omega arith)) (n_le (omega arith))

pub eq_n : {a b : ℤ} → a ≡ b → p⁺ a + p⁻ b ≡ p⁺ b + p⁻ a
eq_n {a} {b} e = subst (λ (z : ℤ). p⁺ a + p⁻ z ≡ p⁺ z + p⁻ a) e refl

pub ruleset zarith = (arith, le_n, n_le, lt_n, n_lt, eq_n, n_eq)

-- ---- a linear expression at once: `omega (zarith, lin 3 (λ a b c. a ⊞ b ⊟ con (pos 2) ⊠ c) x y z)`; a product of variables is an unknown
abbrev pub part_of : Bool → ℤ → ℕ
part_of true z = p⁺ z
part_of false z = p⁻ z

abbrev pub times : Expr → ℕ → ℕ → ℕ → ℕ
times (con (pos k)) p n o = k * p
times (con (negsuc k)) p n o = suc k * n
times (var i) p n o = o
times (a ⊞ b) p n o = o
times (a ⊟ b) p n o = o
times (a ⊠ b) p n o = o
times (minus a) p n o = o

abbrev pub part : List ℤ → Bool → Expr → ℕ
part ρ s (var i) = part_of s (nth i ρ)
part ρ s (con c) = part_of s c
part ρ s (a ⊞ b) = part ρ s a + part ρ s b
part ρ s (a ⊟ b) = part ρ s a + part ρ (not s) b
part ρ s (a ⊠ b) = times a (part ρ s b) (part ρ (not s) b) (part_of s (eval ρ a ⊗ eval ρ b))
part ρ s (minus a) = part ρ (not s) a

neg⁺ : (n : ℕ) → p⁺ (neg_ℤ (pos n)) ≡ 0
neg⁺ zero = refl
neg⁺ (suc n) = refl

neg⁻ : (n : ℕ) → p⁻ (neg_ℤ (pos n)) ≡ n
neg⁻ zero = refl
neg⁻ (suc n) = refl

pos⁺ : (k : ℕ) (x : ℤ) → p⁺ (pos k ⊗ x) ≡ k * p⁺ x
unfolding ◌⊗◌
pos⁺ k (pos n) = refl
pos⁺ k (negsuc n) = neg⁺ (k * suc n) ∙ sym (NatL.mul-zero k)

pos⁻ : (k : ℕ) (x : ℤ) → p⁻ (pos k ⊗ x) ≡ k * p⁻ x
unfolding ◌⊗◌
pos⁻ k (pos n) = sym (NatL.mul-zero k)
pos⁻ k (negsuc n) = neg⁻ (k * suc n)

neg⊗⁺ : (k : ℕ) (x : ℤ) → p⁺ (negsuc k ⊗ x) ≡ suc k * p⁻ x
unfolding ◌⊗◌
neg⊗⁺ k (pos n) = neg⁺ (suc k * n) ∙ sym (NatL.mul-zero (suc k))
neg⊗⁺ k (negsuc n) = refl

neg⊗⁻ : (k : ℕ) (x : ℤ) → p⁻ (negsuc k ⊗ x) ≡ suc k * p⁺ x
unfolding ◌⊗◌
neg⊗⁻ k (pos n) = neg⁻ (suc k * n)
neg⊗⁻ k (negsuc n) = sym (NatL.mul-zero (suc k))

scaled : (k a b c d : ℕ) → a + b ≡ c + d → k * a + k * b ≡ k * c + k * d
scaled k a b c d e = sym (NatL.mul-add k a b) ∙ ap (λ (n : ℕ). k * n) e ∙ NatL.mul-add k c d

swap : (z : ℤ) → p⁺ z + p⁻ z ≡ p⁻ z + p⁺ z
swap z = NatL.add_comm (p⁺ z) (p⁻ z)

product : (ρ : List ℤ) (a : Expr) (x : ℤ) (p n : ℕ) → p⁺ x + n ≡ p⁻ x + p → p⁺ (eval ρ a ⊗ x) + times a n p (p⁻ (eval ρ a ⊗ x)) ≡ p⁻ (eval ρ a ⊗ x) + times a p n (p⁺ (eval ρ a ⊗ x))
product ρ (con (pos k)) x p n e = let s = scaled k (p⁺ x) n (p⁻ x) p e in omega (arith, pos⁺ k x, pos⁻ k x)
product ρ (con (negsuc k)) x p n e = let s = scaled (suc k) (p⁺ x) n (p⁻ x) p e in omega (arith, neg⊗⁺ k x, neg⊗⁻ k x)
product ρ (var i) x p n e = swap (nth i ρ ⊗ x)
product ρ (a ⊞ b) x p n e = swap (eval ρ (a ⊞ b) ⊗ x)
product ρ (a ⊟ b) x p n e = swap (eval ρ (a ⊟ b) ⊗ x)
product ρ (a ⊠ b) x p n e = swap (eval ρ (a ⊠ b) ⊗ x)
product ρ (minus a) x p n e = swap (eval ρ (minus a) ⊗ x)

pub linₗ : (ρ : List ℤ) (e : Expr) → p⁺ (eval ρ e) + part ρ false e ≡ p⁻ (eval ρ e) + part ρ true e
linₗ ρ (var i) = swap (nth i ρ)
linₗ ρ (con c) = swap c
linₗ ρ (a ⊞ b) = let s = linₗ ρ a in let t = linₗ ρ b in omega (arith, sum (eval ρ a) (eval ρ b))
linₗ ρ (a ⊟ b) = let s = linₗ ρ a in let t = linₗ ρ b in omega (arith, difference (eval ρ a) (eval ρ b))
linₗ ρ (a ⊠ b) = product ρ a (eval ρ b) (part ρ true b) (part ρ false b) (linₗ ρ b)
linₗ ρ (minus a) = let s = linₗ ρ a in omega (arith, minus⁺ (eval ρ a), minus⁻ (eval ρ a))

-- ---- with the variables bound by a λ
abbrev pub Fn₁ : ℕ → Type 0
Fn₁ zero = Expr
Fn₁ (suc n) = Expr → Fn₁ n

abbrev pub app₁ : (n : ℕ) → ℕ → Fn₁ n → Expr
app₁ zero i f = f
app₁ (suc n) i f = app₁ n (suc i) (f (var i))

abbrev pub Stmt₁ : ℕ → Expr → (List ℤ → List ℤ) → Type 0
Stmt₁ zero e k = p⁺ (eval (k []) e) + part (k []) false e ≡ p⁻ (eval (k []) e) + part (k []) true e
Stmt₁ (suc n) e k = (x : ℤ) → Stmt₁ n e (λ r. k (x ∷ r))

curry₁ : (n : ℕ) (e : Expr) (k : List ℤ → List ℤ) → Stmt₁ n e k
curry₁ zero e k = linₗ (k []) e
curry₁ (suc n) e k = λ x. curry₁ n e (λ r. k (x ∷ r))

pub lin : (n : ℕ) (f : Fn₁ n) → Stmt₁ n (app₁ n 0 f) (λ r. r)
lin n f = curry₁ n (app₁ n 0 f) (λ r. r)

-- ---- of a number and its negation
module _ {a b : ℤ} (e : b ≡ ⊝ a) where
  pub neg_le : pos 0 ≤ℤ a → b ≤ℤ pos 0
  neg_le h = omega (zarith, e, minus⁺ a, minus⁻ a)

  pub neg_lt : pos 0 <ℤ a → b <ℤ pos 0
  neg_lt h = omega (zarith, e, minus⁺ a, minus⁻ a)

  pub neg_ge : a ≤ℤ pos 0 → pos 0 ≤ℤ b
  neg_ge h = omega (zarith, e, minus⁺ a, minus⁻ a)

  pub neg_gt : a <ℤ pos 0 → pos 0 <ℤ b
  neg_gt h = omega (zarith, e, minus⁺ a, minus⁻ a)

  pub neg_zero : a ≡ pos 0 → b ≡ pos 0
  neg_zero h = omega (zarith, e, h, minus⁺ a, minus⁻ a)
