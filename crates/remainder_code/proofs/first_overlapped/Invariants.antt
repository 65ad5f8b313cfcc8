-- Before turn i: none of the first i trapezoids of the layer overlaps b.
use Rattle.overlay.specs.Overlaps.{overlaps}
use Rattle.remainder_code.proofs.Walking.{Passing}
use Rattle.remainder_code.proofs.first_overlapped.Given as goal

abbrev pub invariant-loop-i : goal.invariant-loop-i
invariant-loop-i l = Passing (λ t. overlaps t l.b.shape) l.layer l.i
