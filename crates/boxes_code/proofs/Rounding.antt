-- How the functions round.
use mathlib.Core.Path.{◌≡◌, refl}
use Prim.Native.Nat.{◌<◌}
use lib.IntN.{ℤ, pos, negsuc}
use lib.Signed.{◌<ℤ◌}
use mir.Syntax.{Width}
use mir.Val.{of_z}
use Rattle.std.specs.Int.{int_div_euclid}
use Rattle.boxes.specs.Whole.{floor}
use Rattle.boxes.proofs.Whole.{positive_nat}

-- ---- what std computes is the floor
pub floor_euclid : (n d : ℤ) → pos 0 <ℤ d → int_div_euclid n d ≡ floor n d
unfolding floor
floor_euclid (pos n) (pos d) h = refl
floor_euclid (negsuc n) (pos d) h = refl
floor_euclid (pos n) (negsuc d) h = absurd h.lt
floor_euclid (negsuc n) (negsuc d) h = absurd h.lt

-- ---- a positive divisor in a machine's bits
pub bits_positive : (w : Width) (d : ℤ) → pos 0 <ℤ d → 0 < of_z w d
bits_positive w (pos d) h = positive_nat d h
bits_positive w (negsuc d) h = absurd h.lt
