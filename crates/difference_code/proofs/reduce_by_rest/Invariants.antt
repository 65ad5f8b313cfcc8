-- Before turn i: what remains of the n trapezoids minus numbers `start` to i of the layer stands in `out`, the box e encloses it, and
-- the scratch area is blank.
use lib.ListN.{length}
use Rattle.boxes.specs.Boxes.{Encloses}
use Rattle.remainder_code.specs.Code.{leading}
use Rattle.remainder_code.proofs.Reducing.{Reducing}
use Rattle.difference_code.proofs.reduce_by_rest.Given as goal

abbrev pub invariant-loop-i : goal.invariant-loop-i
invariant-loop-i l = Reducing (length l.initial.out) l.room l.layer (leading l.initial.out l.n) l.start l.out l.scratch l.left.trapezoids l.left.overlays l.i × Encloses l.e (leading l.out l.left.trapezoids)
