-- Row 3: a point that it lets pass.
use mathlib.Core.Path.{◌≡◌, subst}
use mathlib.Core.Bool.{true, ◌&&◌}
use Prim.Native.Nat.{ℕ, ◌*◌, ◌≤◌}
use native.Mathlib.Nat.{mul-le-mul}
use native.Mathlib.Omega.{arith}
use lib.IntN.{ℤ, pos, nat_abs}
use lib.Signed.{le_z, ◌≤ℤ◌, ◌<ℤ◌}
use Rattle.lists.proofs.Conjunction.{and_left, and_right}
use Rattle.integer.specs.Integer.{⊝◌, ◌⊗◌}
use Rattle.integer.proofs.Linear.{zarith, parts, one_part, minus⁺, minus⁻}
use Rattle.integer.proofs.Magnitude.{mul_magnitude}
use Rattle.integer.proofs.Tests.{le_yes}
use Rattle.geometry.specs.Limit.{max_denominator}
use Rattle.geometry.specs.Points.{Point, IsPoint}
use Rattle.calls.specs.Rows.{within_times, point_passes}

module _ (d : ℤ) (e : le_z (pos 1) d && le_z d (pos max_denominator) ≡ true) where
  least : pos 1 ≤ℤ d
  least = le_yes (pos 1) d (and_left (le_z (pos 1) d) (le_z d (pos max_denominator)) e)

  most : d ≤ℤ pos max_denominator
  most = le_yes d (pos max_denominator) (and_right (le_z (pos 1) d) (le_z d (pos max_denominator)) e)

  pub denominator_small : nat_abs d ≤ max_denominator
  denominator_small = let a = least in let b = most in omega (zarith, parts d, one_part d)

  pub denominator_positive : pos 0 <ℤ d
  denominator_positive = let a = least in omega (zarith, parts d, one_part d)

between : (z b : ℤ) → ⊝ b ≤ℤ z → z ≤ℤ b → nat_abs z ≤ nat_abs b
between z b h k = omega (zarith, parts z, one_part z, parts b, one_part b, minus⁺ b, minus⁻ b)

-- over any limit L: what is from −L·d to L·d, with d within n, is within n·L
times_within : (L n : ℕ) (z d : ℤ) → ⊝ (pos L ⊗ d) ≤ℤ z → z ≤ℤ pos L ⊗ d → nat_abs d ≤ n → nat_abs z ≤ n * L
times_within L n z d least most h =
    let m : nat_abs z ≤ L * nat_abs d = subst (λ (k : ℕ). nat_abs z ≤ k) (mul_magnitude (pos L) d) (between z (pos L ⊗ d) least most) in
    let l : L ≤ L = omega arith in
    omega (arith, m, mul-le-mul l h)

-- at the limit of row 3
pub within_magnitude : (L n : ℕ) (z d : ℤ) → within_times L z d ≡ true → nat_abs d ≤ n → nat_abs z ≤ n * L
within_magnitude L n z d e =
    let b = pos L ⊗ d in
    times_within L n z d (le_yes (⊝ b) z (and_left (le_z (⊝ b) z) (le_z z b) e)) (le_yes z b (and_right (le_z (⊝ b) z) (le_z z b) e))

module _ (L : ℕ) (P : Point) where
  pub denominator_of : point_passes L P ≡ true → le_z (pos 1) P.D && le_z P.D (pos max_denominator) ≡ true
  unfolding point_passes
  denominator_of e = and_left (le_z (pos 1) P.D && le_z P.D (pos max_denominator)) _ e

  pub across_of : point_passes L P ≡ true → within_times L P.X P.D ≡ true
  unfolding point_passes
  across_of e = and_left (within_times L P.X P.D) _ (and_right (le_z (pos 1) P.D && le_z P.D (pos max_denominator)) _ e)

  pub up_of : point_passes L P ≡ true → within_times L P.Y P.D ≡ true
  unfolding point_passes
  up_of e = and_right (within_times L P.X P.D) _ (and_right (le_z (pos 1) P.D && le_z P.D (pos max_denominator)) _ e)

  pub point_real : point_passes L P ≡ true → IsPoint P
  point_real e = denominator_positive P.D (denominator_of e)
