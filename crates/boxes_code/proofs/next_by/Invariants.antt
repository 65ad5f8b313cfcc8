-- Before turn k: a test that the closure computes refuses none of the boxes from number j on and before number k.
use mathlib.Core.Path.{◌≡◌}
use mathlib.Core.Bool.{Bool}
use mathlib.Core.List.{List}
use Prim.Native.Nat.{ℕ}
use lib.IntN.{ℤ}
use Rattle.boxes.specs.declared.Box.{Box}
use Rattle.boxes_code.specs.Code.{box_at, Skipped}
use Rattle.boxes_code.proofs.next_by.Given as goal

abbrev pub invariant-loop-k : goal.invariant-loop-k
invariant-loop-k g l = (t : Box → Box → Bool) (e : Box) (d : List ℤ) → ((k : ℕ) (r : Bool) → goal.F-post g l.apart k r → r ≡ t e (box_at d k)) → Skipped t e d l.j l.i l.k
