-- What every call has: small refusals, and an output and a scratch area that are cleared.
use mathlib.Core.Path.{◌≡◌, ◌∙◌, ap, subst}
use mathlib.Core.List.{List}
use Prim.Native.Nat.{ℕ, ◌/◌}
use native.Mathlib.Omega.{arith}
use lib.ListN.{length, length-replicate}
use lib.IntN.{ℤ, pos}
use Rattle.records.specs.Limits.{memory_width}
use Rattle.records.specs.Records.{Blank}
use Rattle.records.proofs.Buffer.{blank_of}
use Rattle.geometry.specs.Fitness.{SmallRefusal}
use Rattle.geometry.proofs.Refusals.{SmallChecked}
use Rattle.calls.specs.Outcomes.{zeros}
use Rattle.trapezoids_code.specs.Tails.{Borrowed}
use Rattle.std.specs.Prelude.{Result}
use Rattle.geometry.specs.declared.Refusal.{Refusal}
use Rattle.geometry.specs.Refusals.{refused_by}

pub small_refused : {c : (Result (Unit {0}) Refusal)} {n p : ℕ} → c ≡ refused_by n p → SmallChecked c → SmallRefusal n p
small_refused e h = subst SmallChecked e h

-- of 12
pub no_room_small : SmallRefusal 12 0
no_room_small = (omega arith, omega arith)

-- ---- a cleared output and scratch area
pub cleared-length : (d : List ℤ) (n : ℕ) → d ≡ zeros n → length d ≡ n
cleared-length d n e = ap length e ∙ length-replicate n (pos 0)

pub cleared_borrowed : (d : List ℤ) (n : ℕ) → d ≡ zeros n → Borrowed d (n / memory_width)
cleared_borrowed d n e = record { blank = blank_of (pos 0) d n e; wide = omega (arith, cleared-length d n e) }

-- one that is blank again
pub blank-zeros : (d : List ℤ) (n : ℕ) → Blank (pos 0) d → length d ≡ n → d ≡ zeros n
blank-zeros d n e l = e ∙ ap zeros l
