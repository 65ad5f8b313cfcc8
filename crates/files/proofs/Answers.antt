-- The answers of a reader and a writer of layers.
use mathlib.Core.Path.{◌≡◌}
use mathlib.Core.List.{List, ◌++◌}
use Prim.Native.Nat.{ℕ, ◌-◌, ◌<◌, ◌≤◌}
use lib.ListN.{length, replicate}
use borrow.Author.Tests.{le-leb, lt-leb}
use Rattle.files.specs.Outcomes.{refused, done, observed_file, file_outcome}
use Rattle.std.specs.Prelude.{Result, Ok}
use Rattle.geometry.specs.declared.Refusal.{Refusal}
use Rattle.geometry.specs.Refusals.{refused_by}

-- ---- what a call leaves
module _ {W : Type 0} (z : W) (pieces : ℕ) (content out : List W) {c : (Result (Unit {0}) Refusal)} where
  pub refused_is : {number place : ℕ} → c ≡ refused_by number place → observed_file (refused number place) out ≡ file_outcome c z pieces content out
  refused_is e = rw e

  pub no_room_is : c ≡ Ok tt → length out < length content → observed_file (refused 12 0) (replicate (length out) z) ≡ file_outcome c z pieces content out
  no_room_is e h = rw (e, lt-leb (length content) (length out) h)

  pub done_is : c ≡ Ok tt → length content ≤ length out → observed_file (done pieces 0) (content ++ replicate (length out - length content) z) ≡ file_outcome c z pieces content out
  done_is e h = rw (e, le-leb (length content) (length out) h)
