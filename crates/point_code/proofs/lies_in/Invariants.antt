-- Before turn i: the point lies in none of the first i trapezoids of the layer.
use Rattle.geometry.specs.Trapezoids.{lies_in_layer}
use Rattle.geometry_code.specs.Code.{point_of}
use Rattle.remainder_code.proofs.Walking.{Searching}
use Rattle.point_code.proofs.lies_in.Given as goal

abbrev pub invariant-loop-i : goal.invariant-loop-i
invariant-loop-i l = Searching (lies_in_layer (point_of l.x l.y l.d)) l.layer l.i
