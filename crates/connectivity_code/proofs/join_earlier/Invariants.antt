-- Before turn j: trapezoid i has been joined with each of the first j that it touches, in order; j is at most i.
use Prim.Native.Nat.{◌-◌}
use Rattle.geometry.specs.Trapezoids.{layer_of}
use Rattle.connectivity.specs.Components.{touching_at}
use Rattle.connectivity_code.proofs.Loops.{Earlier}
use Rattle.connectivity_code.proofs.join_earlier.Given as goal

abbrev pub invariant-loop-j : goal.invariant-loop-j
invariant-loop-j l = Earlier (touching_at (layer_of l.layer)) l.i l.initial.numbers l.numbers l.j

abbrev pub decreases-loop-j : goal.decreases-loop-j
decreases-loop-j l = l.i - l.j
