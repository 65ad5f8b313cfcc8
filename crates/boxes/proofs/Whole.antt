-- Rounding: what `floor` and `ceiling` are, and their magnitudes.
use mathlib.Core.Path.{◌≡◌, refl, sym, subst}
use Prim.Native.Nat.{ℕ, suc, ◌+◌, ◌*◌, ◌/◌, ◌≤◌, ◌<◌}
use native.Mathlib.Nat.{div-le_self, div-mul-le_self, lt-div-mul-add, suc-mul}
use native.Mathlib.Omega.{arith}
use lib.IntN.{ℤ, pos, negsuc, nat_abs}
use lib.Signed.{◌<ℤ◌}
use Rattle.integer.specs.Integer.{◌⊕◌, ◌⊗◌, ⊝◌}
use Rattle.integer.proofs.Ring.{ring, ◌⊞◌, ◌⊟◌, ◌⊠◌, minus, con, ◌≗◌}
use Rattle.integer.proofs.Order.{le_by, lt_by, le→nonneg, lt→positive}
use Rattle.integer.proofs.Linear.{zarith, sum, minus⁺, minus⁻}
use Rattle.integer.proofs.Magnitude.{neg_magnitude}
use Rattle.boxes.specs.Whole.{floor, ceiling, FloorExact, CeilingExact}

-- ---- the floor's product with the divisor
product_down : (n d : ℕ) → negsuc (n / d) ⊗ pos d ≡ ⊝ (pos (suc (n / d) * d))
unfolding ◌⊗◌ ⊝◌
product_down n d = refl

product_up : (n d : ℕ) → pos (n / d) ⊗ pos d ≡ pos (n / d * d)
unfolding ◌⊗◌
product_up n d = refl

next_product : (q d : ℤ) → (q ⊕ pos 1) ⊗ d ≡ q ⊗ d ⊕ d
next_product q d = ring 2 (λ q d. (q ⊞ con (pos 1)) ⊠ d ≗ q ⊠ d ⊞ d) tt q d

pub positive_nat : (d : ℕ) → pos 0 <ℤ pos d → 0 < d
positive_nat d h = omega zarith

pub floor_exact : FloorExact
unfolding floor
floor_exact (pos n) (pos d) h =
    let hd = positive_nat d h in
    let a = div-mul-le_self n d in
    let b = lt-div-mul-add {a = n} hd in
    let e = product_up n d in
    (omega (zarith, e, a), subst (λ (z : ℤ). pos n <ℤ z) (sym (next_product (pos (n / d)) (pos d))) (omega (zarith, e, b, sum (pos (n / d) ⊗ pos d) (pos d))))
floor_exact (negsuc n) (pos d) h =
    let hd = positive_nat d h in
    let m = suc (n / d) * d in
    let b = div-mul-le_self n d in
    let c : m ≡ n / d * d + d = suc-mul (n / d) d in
    let a : n < m = subst (λ (k : ℕ). n < k) (sym c) (lt-div-mul-add {a = n} hd) in
    let e = product_down n d in
    (omega (zarith, e, a, minus⁺ (pos m), minus⁻ (pos m)), subst (λ (z : ℤ). negsuc n <ℤ z) (sym (next_product (negsuc (n / d)) (pos d))) (omega (zarith, e, b, c, minus⁺ (pos m), minus⁻ (pos m), sum (negsuc (n / d) ⊗ pos d) (pos d))))
floor_exact n (negsuc d) h = absurd h.lt

pub ceiling_exact : CeilingExact
unfolding ceiling
ceiling_exact n d h =
    let f = floor (⊝ n) d in
    let e = floor_exact (⊝ n) d h in (
      le_by (ring 3 (λ n d f. minus n ⊟ f ⊠ d ≗ minus f ⊠ d ⊟ n) tt n d f) (le→nonneg e.0),
      lt_by (ring 3 (λ n d f. (f ⊞ con (pos 1)) ⊠ d ⊟ minus n ≗ n ⊟ (minus f ⊟ con (pos 1)) ⊠ d) tt n d f) (lt→positive e.1),
    )

-- ---- magnitudes
pub floor_size : (n d : ℤ) → nat_abs (floor n d) ≤ nat_abs n
unfolding floor
floor_size (pos n) d = div-le_self n (nat_abs d)
floor_size (negsuc n) d = let h = div-le_self n (nat_abs d) in omega (arith, h)

pub ceiling_size : (n d : ℤ) → nat_abs (ceiling n d) ≤ nat_abs n
unfolding ceiling
ceiling_size n d =
    let h = floor_size (⊝ n) d in
    let a = neg_magnitude (floor (⊝ n) d) in
    let b = neg_magnitude n in
    omega (arith, h, a, b)
