-- Before turn i: each of the first i trapezoids in turn has been joined with those before it that it touches.
use mathlib.Core.Path.{◌≡◌}
use Rattle.geometry.specs.Trapezoids.{layer_of}
use Rattle.connectivity.specs.Components.{joined_all, touching_at}
use Rattle.connectivity_code.proofs.join_all.Given as goal

abbrev pub invariant-loop-i : goal.invariant-loop-i
invariant-loop-i l = l.numbers ≡ joined_all (touching_at (layer_of l.layer)) l.i l.initial.numbers
