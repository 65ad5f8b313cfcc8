-- A word and its 32 bits, as std turns the one into the other.
use mathlib.Core.Path.{◌≡◌, refl, ap}
use mathlib.Core.List.{[], ◌∷◌}
use mathlib.Core.Bool.{Bool, true, false}
use Prim.Native.Nat.{ℕ, suc, ◌-◌, ◌%◌, ◌/◌}
use native.Mathlib.Omega.{arith}
use lib.IntN.{ℤ, pos, negsuc}
use lib.Dec.{ltb}
use mir.Syntax.{w32}
use mir.Val.{to_z, of_z}
use Rattle.records.specs.Words.{signed, pattern, bytes_of}

pub signed_bits : (n : ℕ) → to_z w32 n ≡ signed n
unfolding signed
signed_bits n = go (ltb n 2147483648) refl
  where
    go : (t : Bool) → ltb n 2147483648 ≡ t → to_z w32 n ≡ signed n
    go true e = rw e
    go false e = let f : 4294967296 - suc n ≡ 4294967295 - n = omega arith in rw e (ap negsuc f)

pub pattern_bits : (z : ℤ) → of_z w32 z ≡ pattern z
pattern_bits (pos n) = refl
pattern_bits (negsuc n) = let f : 4294967296 - suc n ≡ 4294967295 - n = omega arith in f

pub bytes_is : (z : ℤ) (p : ℕ) → p ≡ pattern z → (p % 256 ∷ p / 256 % 256 ∷ p / 65536 % 256 ∷ p / 16777216 % 256 ∷ []) ≡ bytes_of z
unfolding bytes_of
bytes_is z p e = ap (λ (q : ℕ). q % 256 ∷ q / 256 % 256 ∷ q / 65536 % 256 ∷ q / 16777216 % 256 ∷ []) e
