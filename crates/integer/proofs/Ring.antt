-- Identities of commutative rings over ℤ, by computation: `ring 3 (λ a b c. (a ⊞ b) ⊠ c ≗ a ⊠ c ⊞ b ⊠ c) tt x y z`.
-- Both sides become polynomials, and the identity holds if their difference has no coefficient left.
use mathlib.Core.Path.{◌≡◌, refl, sym, ◌∙◌, ap, ap₂}
use mathlib.Core.Bool.{Bool, true, false}
use mathlib.Core.List.{List, [], ◌∷◌}
use Prim.Native.Nat.{ℕ, zero, suc}
use lib.Dec.{T}
use lib.IntN.{ℤ, pos, negsuc, ◌+ℤ◌, ◌*ℤ◌}
use Rattle.integer.specs.Integer.{◌⊕◌, ◌⊖◌, ◌⊗◌, ⊝◌}
use Rattle.integer.proofs.Laws.{sub_is, add_assoc, add_comm, zero_add, add_zero, add_neg, mul_comm, mul_zero, zero_mul, mul_one, add_mul, mul_add, neg_mul, mul_assoc}

infixl 65 ◌⊞◌ ◌⊟◌
infixl 70 ◌⊠◌
infix 4 ◌≗◌
pub data Expr : Type 0 where
  var : ℕ → Expr
  con : ℤ → Expr
  ◌⊞◌ : Expr → Expr → Expr
  ◌⊟◌ : Expr → Expr → Expr
  ◌⊠◌ : Expr → Expr → Expr
  minus : Expr → Expr

pub data Eqn : Type 0 where
  ◌≗◌ : Expr → Expr → Eqn

-- the values of the variables, 0 past the last
abbrev pub hd : List ℤ → ℤ
hd [] = pos 0
hd (x ∷ ρ) = x

abbrev pub tl : List ℤ → List ℤ
tl [] = []
tl (x ∷ ρ) = ρ

abbrev pub nth : ℕ → List ℤ → ℤ
nth zero ρ = hd ρ
nth (suc i) ρ = nth i (tl ρ)

abbrev pub eval : List ℤ → Expr → ℤ
eval ρ (var i) = nth i ρ
eval ρ (con c) = c
eval ρ (a ⊞ b) = eval ρ a ⊕ eval ρ b
eval ρ (a ⊟ b) = eval ρ a ⊖ eval ρ b
eval ρ (a ⊠ b) = eval ρ a ⊗ eval ρ b
eval ρ (minus a) = ⊝ (eval ρ a)

-- ---- polynomials: `num c`, or `node q p` for q + x·p, with x the first variable and q over the later ones alone
pub data Poly : Type 0 where
  num : ℤ → Poly
  node : Poly → Poly → Poly

abbrev pub add_const : ℤ → Poly → Poly
add_const a (num b) = num (a +ℤ b)
add_const a (node q p) = node (add_const a q) p

-- a polynomial is not walked for a zero
abbrev pub add_const? : ℤ → Poly → Poly
add_const? (pos zero) r = r
add_const? (pos (suc n)) r = add_const (pos (suc n)) r
add_const? (negsuc n) r = add_const (negsuc n) r

abbrev pub add : Poly → Poly → Poly
add (num a) r = add_const? a r
add (node q p) (num b) = node (add_const? b q) p
add (node q p) (node q' p') = node (add q q') (add p p')

abbrev pub scale : ℤ → Poly → Poly
scale c (num b) = num (c *ℤ b)
scale c (node q p) = node (scale c q) (scale c p)

-- f of what is not 0
abbrev pub nonzero : (Poly → Poly) → Poly → Poly
nonzero f (num (pos zero)) = num (pos 0)
nonzero f (num (pos (suc n))) = f (num (pos (suc n)))
nonzero f (num (negsuc n)) = f (num (negsuc n))
nonzero f (node q p) = f (node q p)

-- r times a polynomial f over the later variables alone
abbrev pub mul_later : (Poly → Poly) → Poly → Poly
mul_later f (num b) = node (nonzero f (num b)) (num (pos 0))
mul_later f (node r₀ r₁) = node (nonzero f r₀) (mul_later f r₁)

-- t + x·s
abbrev pub add_shifted : Poly → Poly → Poly
add_shifted t (num (pos zero)) = t
add_shifted t (num (pos (suc n))) = add t (node (num (pos 0)) (num (pos (suc n))))
add_shifted t (num (negsuc n)) = add t (node (num (pos 0)) (num (negsuc n)))
add_shifted t (node q p) = add t (node (num (pos 0)) (node q p))

-- (q + x·p)·r, of q, the product with q, r and p·r
abbrev pub mul_node : Poly → (Poly → Poly) → Poly → Poly → Poly
mul_node (num (pos zero)) f r s = node (num (pos 0)) s
mul_node (num (pos (suc n))) f r s = add_shifted (scale (pos (suc n)) r) s
mul_node (num (negsuc n)) f r s = add_shifted (scale (negsuc n) r) s
mul_node (node q₀ q₁) f r s = add_shifted (mul_later f r) s

abbrev pub scale? : ℤ → Poly → Poly
scale? (pos zero) r = num (pos 0)
scale? (pos (suc n)) r = scale (pos (suc n)) r
scale? (negsuc n) r = scale (negsuc n) r

abbrev pub mul : Poly → Poly → Poly
mul (num a) r = scale? a r
mul (node q p) r = mul_node q (mul q) r (mul p r)

abbrev pub var_poly : ℕ → Poly
var_poly zero = node (num (pos 0)) (num (pos 1))
var_poly (suc k) = node (var_poly k) (num (pos 0))

abbrev pub norm : Expr → Poly
norm (var i) = var_poly i
norm (con c) = num c
norm (a ⊞ b) = add (norm a) (norm b)
norm (a ⊟ b) = add (norm a) (scale (negsuc 0) (norm b))
norm (a ⊠ b) = mul (norm a) (norm b)
norm (minus a) = scale (negsuc 0) (norm a)

-- every coefficient is 0
abbrev pub vanishes : Poly → Bool
vanishes (num (pos zero)) = true
vanishes (num (pos (suc n))) = false
vanishes (num (negsuc n)) = false
vanishes (node q p) = elim (vanishes q) [ true ↦ vanishes p | false ↦ false ]

-- ---- soundness
value : List ℤ → Poly → ℤ
value ρ (num c) = c
value ρ (node q p) = value (tl ρ) q ⊕ hd ρ ⊗ value ρ p

add_swap : (a b c : ℤ) → a ⊕ (b ⊕ c) ≡ b ⊕ (a ⊕ c)
add_swap a b c = sym (add_assoc a b c) ∙ ap (λ (x : ℤ). x ⊕ c) (add_comm a b) ∙ add_assoc b a c

mul_swap : (a b c : ℤ) → a ⊗ (b ⊗ c) ≡ b ⊗ (a ⊗ c)
mul_swap a b c = sym (mul_assoc a b c) ∙ ap (λ (x : ℤ). x ⊗ c) (mul_comm a b) ∙ mul_assoc b a c

add4 : (a b c d : ℤ) → (a ⊕ b) ⊕ (c ⊕ d) ≡ (a ⊕ c) ⊕ (b ⊕ d)
add4 a b c d = add_assoc a b (c ⊕ d) ∙ ap (λ (x : ℤ). a ⊕ x) (add_swap b c d) ∙ sym (add_assoc a c (b ⊕ d))

value_add_const : (ρ : List ℤ) (a : ℤ) (p : Poly) → value ρ (add_const a p) ≡ a ⊕ value ρ p
unfolding value ◌⊕◌
value_add_const ρ a (num b) = refl
value_add_const ρ a (node q p) = ap (λ (x : ℤ). x ⊕ hd ρ ⊗ value ρ p) (value_add_const (tl ρ) a q) ∙ add_assoc a (value (tl ρ) q) (hd ρ ⊗ value ρ p)

value-add_const? : (ρ : List ℤ) (a : ℤ) (p : Poly) → value ρ (add_const? a p) ≡ a ⊕ value ρ p
value-add_const? ρ (pos zero) p = sym (zero_add (value ρ p))
value-add_const? ρ (pos (suc n)) p = value_add_const ρ (pos (suc n)) p
value-add_const? ρ (negsuc n) p = value_add_const ρ (negsuc n) p

value_add : (ρ : List ℤ) (p r : Poly) → value ρ (add p r) ≡ value ρ p ⊕ value ρ r
unfolding value
value_add ρ (num a) r = value-add_const? ρ a r
value_add ρ (node q p) (num b) =
    ap (λ (x : ℤ). x ⊕ hd ρ ⊗ value ρ p) (value-add_const? (tl ρ) b q) ∙ add_assoc b (value (tl ρ) q) (hd ρ ⊗ value ρ p) ∙ add_comm b (value (tl ρ) q ⊕ hd ρ ⊗ value ρ p)
value_add ρ (node q p) (node q' p') =
    ap₂ ◌⊕◌ (value_add (tl ρ) q q') (ap (λ (x : ℤ). hd ρ ⊗ x) (value_add ρ p p') ∙ mul_add (hd ρ) (value ρ p) (value ρ p'))
    ∙ add4 (value (tl ρ) q) (value (tl ρ) q') (hd ρ ⊗ value ρ p) (hd ρ ⊗ value ρ p')

value_scale : (ρ : List ℤ) (c : ℤ) (p : Poly) → value ρ (scale c p) ≡ c ⊗ value ρ p
unfolding value ◌⊗◌
value_scale ρ c (num b) = refl
value_scale ρ c (node q p) =
    ap₂ ◌⊕◌ (value_scale (tl ρ) c q) (ap (λ (x : ℤ). hd ρ ⊗ x) (value_scale ρ c p) ∙ mul_swap (hd ρ) c (value ρ p))
    ∙ sym (mul_add c (value (tl ρ) q) (hd ρ ⊗ value ρ p))

value_nonzero : (ρ : List ℤ) (z : ℤ) (f : Poly → Poly) → ((r : Poly) → value ρ (f r) ≡ z ⊗ value ρ r) → (r : Poly) → value ρ (nonzero f r) ≡ z ⊗ value ρ r
unfolding value
value_nonzero ρ z f h (num (pos zero)) = sym (mul_zero z)
value_nonzero ρ z f h (num (pos (suc n))) = h (num (pos (suc n)))
value_nonzero ρ z f h (num (negsuc n)) = h (num (negsuc n))
value_nonzero ρ z f h (node q p) = h (node q p)

value_mul_later : (ρ : List ℤ) (z : ℤ) (f : Poly → Poly) → ((r : Poly) → value (tl ρ) (f r) ≡ z ⊗ value (tl ρ) r) → (r : Poly) → value ρ (mul_later f r) ≡ z ⊗ value ρ r
unfolding value
value_mul_later ρ z f h (num b) = ap₂ ◌⊕◌ (value_nonzero (tl ρ) z f h (num b)) (mul_zero (hd ρ)) ∙ add_zero (z ⊗ b)
value_mul_later ρ z f h (node r₀ r₁) =
    ap₂ ◌⊕◌ (value_nonzero (tl ρ) z f h r₀) (ap (λ (x : ℤ). hd ρ ⊗ x) (value_mul_later ρ z f h r₁) ∙ mul_swap (hd ρ) z (value ρ r₁))
    ∙ sym (mul_add z (value (tl ρ) r₀) (hd ρ ⊗ value ρ r₁))

value_shift : (ρ : List ℤ) (t s : Poly) → value ρ (add t (node (num (pos 0)) s)) ≡ value ρ t ⊕ hd ρ ⊗ value ρ s
unfolding value
value_shift ρ t s = value_add ρ t (node (num (pos 0)) s) ∙ ap (λ (x : ℤ). value ρ t ⊕ x) (zero_add (hd ρ ⊗ value ρ s))

value_add_shifted : (ρ : List ℤ) (t s : Poly) → value ρ (add_shifted t s) ≡ value ρ t ⊕ hd ρ ⊗ value ρ s
unfolding value
value_add_shifted ρ t (num (pos zero)) = sym (add_zero (value ρ t)) ∙ ap (λ (x : ℤ). value ρ t ⊕ x) (sym (mul_zero (hd ρ)))
value_add_shifted ρ t (num (pos (suc n))) = value_shift ρ t (num (pos (suc n)))
value_add_shifted ρ t (num (negsuc n)) = value_shift ρ t (num (negsuc n))
value_add_shifted ρ t (node q p) = value_shift ρ t (node q p)

-- z·r + x·(y·r) is (z + x·y)·r
value_plus : (ρ : List ℤ) (z y : ℤ) (t r s : Poly) → value ρ t ≡ z ⊗ value ρ r → value ρ s ≡ y ⊗ value ρ r → value ρ (add_shifted t s) ≡ (z ⊕ hd ρ ⊗ y) ⊗ value ρ r
value_plus ρ z y t r s h k =
    value_add_shifted ρ t s
    ∙ ap₂ ◌⊕◌ h (ap (λ (x : ℤ). hd ρ ⊗ x) k ∙ sym (mul_assoc (hd ρ) y (value ρ r)))
    ∙ sym (add_mul z (hd ρ ⊗ y) (value ρ r))

value_mul_node : (ρ : List ℤ) (y : ℤ) (q : Poly) (f : Poly → Poly) (r s : Poly) → ((r : Poly) → value (tl ρ) (f r) ≡ value (tl ρ) q ⊗ value (tl ρ) r) → value ρ s ≡ y ⊗ value ρ r → value ρ (mul_node q f r s) ≡ (value (tl ρ) q ⊕ hd ρ ⊗ y) ⊗ value ρ r
unfolding value
value_mul_node ρ y (num (pos zero)) f r s h k =
    zero_add (hd ρ ⊗ value ρ s) ∙ ap (λ (x : ℤ). hd ρ ⊗ x) k ∙ sym (mul_assoc (hd ρ) y (value ρ r)) ∙ ap (λ (x : ℤ). x ⊗ value ρ r) (sym (zero_add (hd ρ ⊗ y)))
value_mul_node ρ y (num (pos (suc n))) f r s h k = value_plus ρ (pos (suc n)) y (scale (pos (suc n)) r) r s (value_scale ρ (pos (suc n)) r) k
value_mul_node ρ y (num (negsuc n)) f r s h k = value_plus ρ (negsuc n) y (scale (negsuc n) r) r s (value_scale ρ (negsuc n) r) k
value_mul_node ρ y (node q₀ q₁) f r s h k = value_plus ρ (value (tl ρ) (node q₀ q₁)) y (mul_later f r) r s (value_mul_later ρ (value (tl ρ) (node q₀ q₁)) f h r) k

value-scale? : (ρ : List ℤ) (a : ℤ) (r : Poly) → value ρ (scale? a r) ≡ a ⊗ value ρ r
unfolding value
value-scale? ρ (pos zero) r = sym (zero_mul (value ρ r))
value-scale? ρ (pos (suc n)) r = value_scale ρ (pos (suc n)) r
value-scale? ρ (negsuc n) r = value_scale ρ (negsuc n) r

value_mul : (ρ : List ℤ) (p r : Poly) → value ρ (mul p r) ≡ value ρ p ⊗ value ρ r
unfolding value
value_mul ρ (num a) r = value-scale? ρ a r
value_mul ρ (node q p) r = value_mul_node ρ (value ρ p) q (mul q) r (mul p r) (λ t. value_mul (tl ρ) q t) (value_mul ρ p r)

value_var : (k : ℕ) (ρ : List ℤ) → value ρ (var_poly k) ≡ nth k ρ
unfolding value
value_var zero ρ = zero_add (hd ρ ⊗ pos 1) ∙ mul_one (hd ρ)
value_var (suc k) ρ = ap₂ ◌⊕◌ (value_var k (tl ρ)) (mul_zero (hd ρ)) ∙ add_zero (nth k (tl ρ))

neg_is : (a : ℤ) → negsuc 0 ⊗ a ≡ ⊝ a
unfolding ⊝◌
neg_is a = neg_mul (pos 1) a ∙ ap ⊝◌ (mul_comm (pos 1) a ∙ mul_one a)

value_norm : (ρ : List ℤ) (e : Expr) → value ρ (norm e) ≡ eval ρ e
unfolding value
value_norm ρ (var i) = value_var i ρ
value_norm ρ (con c) = refl
value_norm ρ (a ⊞ b) = value_add ρ (norm a) (norm b) ∙ ap₂ ◌⊕◌ (value_norm ρ a) (value_norm ρ b)
value_norm ρ (a ⊟ b) =
    value_add ρ (norm a) (scale (negsuc 0) (norm b))
    ∙ ap₂ ◌⊕◌ (value_norm ρ a) (value_scale ρ (negsuc 0) (norm b) ∙ neg_is (value ρ (norm b)) ∙ ap ⊝◌ (value_norm ρ b))
    ∙ sym (sub_is (eval ρ a) (eval ρ b))
value_norm ρ (a ⊠ b) = value_mul ρ (norm a) (norm b) ∙ ap₂ ◌⊗◌ (value_norm ρ a) (value_norm ρ b)
value_norm ρ (minus a) = value_scale ρ (negsuc 0) (norm a) ∙ neg_is (value ρ (norm a)) ∙ ap ⊝◌ (value_norm ρ a)

both : (a b : Bool) → T (elim a [ true ↦ b | false ↦ false ]) → T a × T b
both true b t = (tt, t)
both false b t = absurd t

value_vanishes : (ρ : List ℤ) (p : Poly) → T (vanishes p) → value ρ p ≡ pos 0
unfolding value
value_vanishes ρ (num (pos zero)) t = refl
value_vanishes ρ (num (pos (suc n))) t = absurd t
value_vanishes ρ (num (negsuc n)) t = absurd t
value_vanishes ρ (node q p) t =
    ap₂ ◌⊕◌ (value_vanishes (tl ρ) q (both (vanishes q) (vanishes p) t).0) (ap (λ (x : ℤ). hd ρ ⊗ x) (value_vanishes ρ p (both (vanishes q) (vanishes p) t).1) ∙ mul_zero (hd ρ)) ∙ add_zero (pos 0)

pub sub_zero : (a b : ℤ) → a ⊖ b ≡ pos 0 → a ≡ b
sub_zero a b h =
    sym (add_zero a) ∙ ap (λ (x : ℤ). a ⊕ x) (sym (add_comm (⊝ b) b ∙ add_neg b)) ∙ sym (add_assoc a (⊝ b) b) ∙ ap (λ (x : ℤ). x ⊕ b) (sym (sub_is a b) ∙ h) ∙ zero_add b

-- two expressions whose difference has no monomial left are equal at every ρ
pub ringₗ : (ρ : List ℤ) (e e' : Expr) → T (vanishes (norm (e ⊟ e'))) → eval ρ e ≡ eval ρ e'
ringₗ ρ e e' t = sub_zero (eval ρ e) (eval ρ e') (sym (value_norm ρ (e ⊟ e')) ∙ value_vanishes ρ (norm (e ⊟ e')) t)

-- ---- with the variables bound by a λ
abbrev pub Fn : ℕ → Type 0
Fn zero = Eqn
Fn (suc n) = Expr → Fn n

abbrev pub app : (n : ℕ) → ℕ → Fn n → Eqn
app zero i f = f
app (suc n) i f = app n (suc i) (f (var i))

abbrev pub lhs : Eqn → Expr
lhs (a ≗ b) = a

abbrev pub rhs : Eqn → Expr
rhs (a ≗ b) = b

abbrev pub Stmt : ℕ → Eqn → (List ℤ → List ℤ) → Type 0
Stmt zero q k = eval (k []) (lhs q) ≡ eval (k []) (rhs q)
Stmt (suc n) q k = (x : ℤ) → Stmt n q (λ r. k (x ∷ r))

curry : (n : ℕ) (q : Eqn) (k : List ℤ → List ℤ) → T (vanishes (norm (lhs q ⊟ rhs q))) → Stmt n q k
curry zero q k t = ringₗ (k []) (lhs q) (rhs q) t
curry (suc n) q k t = λ x. curry n q (λ r. k (x ∷ r)) t

pub ring : (n : ℕ) (f : Fn n) → T (vanishes (norm (lhs (app n 0 f) ⊟ rhs (app n 0 f)))) → Stmt n (app n 0 f) (λ r. r)
ring n f t = curry n (app n 0 f) (λ r. r) t
