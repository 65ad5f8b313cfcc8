-- Before turn i: the `start` trapezoids and past them what is left of the first i of the first layer minus the second stand in `out`, each took at most
-- `overlays_of_one` overlays, and the scratch area is blank.
use mathlib.Core.List.{◌++◌}
use Prim.Native.Nat.{◌*◌, ◌≤◌}
use lib.ListN.{length}
use Rattle.geometry.specs.Trapezoids.{layer_of}
use Rattle.sources.specs.Sourced.{sourced_of}
use Rattle.boolean.specs.Sources.{sourced_difference}
use Rattle.boolean.specs.Space.{difference_stages}
use Rattle.remainder_code.specs.Code.{overlays_of_one, ScratchFor}
use Rattle.bearing_code.specs.Code.{standing}
use Rattle.remainder_code.proofs.Folding.{Folding}
use Rattle.difference_code.proofs.Folds.{difference_fold}
use Rattle.difference_code.proofs.difference_into.Given as goal

abbrev pub invariant-loop-i : goal.invariant-loop-i
invariant-loop-i l =
    Folding (difference_fold (layer_of l.second)) (length l.initial.out) l.room (standing l.initial.out l.start ++ sourced_difference (sourced_of l.first) (layer_of l.second)) (difference_stages l.start (layer_of l.first) (layer_of l.second)) l.first l.out l.k l.made l.i
    × (l.made ≤ overlays_of_one * l.i) × ScratchFor l.out l.scratch
