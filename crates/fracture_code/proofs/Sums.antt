-- Sums that are zero.
use Rattle.std.proofs.Common.{is_eq}
use mathlib.Core.Path.{◌≡◌, refl, ap}
use Prim.Native.Nat.{zero, suc}
use lib.IntN.{ℤ, pos, negsuc}
use native.Mathlib.Omega.{arith}
use borrow.Author.Tests.{lt-ltb, le-ltb}
use Rattle.integer.proofs.Tests.{order_less, order_greater, order_equal}
use Rattle.integer.specs.Compare.{order_of}
use Rattle.sweep.specs.Columns.{is_zero}

pub zero_equal : (z : ℤ) → is_eq (order_of z (pos 0)) ≡ is_zero z
zero_equal (pos zero) = ap is_eq (order_equal (pos zero) (pos 0) refl refl)
zero_equal (pos (suc n)) = ap is_eq (order_greater (pos (suc n)) (pos 0) (le-ltb (suc n) 0 (omega arith)) (lt-ltb 0 (suc n) (omega arith)))
zero_equal (negsuc n) = ap is_eq (order_less (negsuc n) (pos 0) refl)
