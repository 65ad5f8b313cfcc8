-- The number and the place of a refusal are small.
use mathlib.Core.Path.{◌≡◌, refl}
use mathlib.Core.List.{List, [], ◌∷◌}
use Prim.Native.Nat.{ℕ, ◌+◌, ◌<◌, ◌≤◌}
use native.Mathlib.Omega.{arith}
use lib.ListN.{length}
use Rattle.geometry.specs.declared.Trapezoid.{Trapezoid}
use Rattle.geometry.specs.Fitness.{verdict, refuse, first_refusal, SmallRefusal}
use Rattle.geometry.proofs.Fitness.{row_exact}
use Rattle.std.specs.Prelude.{Result, Ok, Err}
use Rattle.geometry.specs.declared.Refusal.{Refusal}

abbrev pub SmallChecked : Result (Unit {0}) Refusal → Type 0
SmallChecked (Ok u) = Unit {0}
SmallChecked (Err refusal) = SmallRefusal refusal.number refusal.place

small_refuse : (L i : ℕ) (t : Trapezoid) (v : Result (Unit {0}) ℕ) (c : Result (Unit {0}) Refusal) → verdict L t ≡ v → i < 4294967296 → SmallChecked c → SmallChecked (refuse v i c)
small_refuse L i t (Ok u) c e l h = h
small_refuse L i t (Err n) c e l h = let k = (row_exact L t).numbers n e in (omega (arith, k.1), l)

pub small_first : (L i : ℕ) (ts : List Trapezoid) → i + length ts ≤ 4294967296 → SmallChecked (first_refusal L i ts)
unfolding first_refusal
small_first L i [] l = tt
small_first L i (t ∷ ts) l = small_refuse L i t (verdict L t) (first_refusal L (i + 1) ts) refl (omega arith) (small_first L (i + 1) ts (omega arith))
