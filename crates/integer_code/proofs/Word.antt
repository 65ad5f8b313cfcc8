-- A signed operation at a machine's width: where the result's magnitude is below half the width's power, the bits drop out.
use mathlib.Core.Path.{◌≡◌, sym, ap₂, ◌∙◌, subst}
use Prim.Native.Nat.{ℕ, ◌<◌, ◌≤◌, ◌^◌}
use native.Mathlib.Nat.{lt_of_le_of_lt}
use lib.IntN.{ℤ, nat_abs}
use mir.Syntax.{Width}
use mir.Val.{SFits, to_z, of_z, hbits}
use mir.Facts.{to_z-of_z}
use Rattle.integer.proofs.Magnitude.{mag_le}

module _ {w : Width} where
  pub fits : (z : ℤ) → nat_abs z < 2 ^ hbits w → SFits w z
  fits z h = record { sfits = lt_of_le_of_lt (mag_le z) h }

  -- of the operation f at two words a and b, whose result's magnitude is at most n
  module _ (f : ℤ → ℤ → ℤ) (a b : ℤ) (n : ℕ) (fa : SFits w a) (fb : SFits w b) (bound : nat_abs (f a b) ≤ n) (below : n < 2 ^ hbits w) where
    pub result_fits : SFits w (f (to_z w (of_z w a)) (to_z w (of_z w b)))
    result_fits = subst (SFits w) (sym (ap₂ f (to_z-of_z fa) (to_z-of_z fb))) (fits (f a b) (lt_of_le_of_lt bound below))

    pub result_is : to_z w (of_z w (f (to_z w (of_z w a)) (to_z w (of_z w b)))) ≡ f a b
    result_is = to_z-of_z result_fits ∙ ap₂ f (to_z-of_z fa) (to_z-of_z fb)
