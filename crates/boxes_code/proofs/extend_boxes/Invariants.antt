-- Before turn i: the boxes of the first i trapezoids of the layer stand, and the slice is as long as at the start.
use Rattle.boxes_code.proofs.Slices.{Filling}
use Rattle.boxes_code.proofs.extend_boxes.Given as goal

abbrev pub invariant-loop-i : goal.invariant-loop-i
invariant-loop-i l = Filling l.layer l.initial.boxes l.boxes l.i
