-- Before turn i: a overlaps none of the first i trapezoids of the layer.
use Rattle.overlay.specs.Overlaps.{overlaps}
use Rattle.remainder_code.proofs.Walking.{Passing}
use Rattle.remainder_code.proofs.first_overlapping.Given as goal

abbrev pub invariant-loop-i : goal.invariant-loop-i
invariant-loop-i l = Passing (overlaps l.a.shape) l.layer l.i
