-- Before turn i: what the first i trapezoids of the first layer have in common with the second stands in `out`, and each counts at most `max_records` overlays.
use Prim.Native.Nat.{◌*◌, ◌≤◌}
use lib.ListN.{length}
use Rattle.records.specs.Limits.{max_records}
use Rattle.geometry.specs.Trapezoids.{layer_of}
use Rattle.sources.specs.Sourced.{sourced_of}
use Rattle.boolean.specs.Sources.{sourced_intersection}
use Rattle.boolean.specs.Space.{intersection_stages}
use Rattle.remainder_code.proofs.Folding.{Folding}
use Rattle.intersection_code.proofs.Folds.{intersection_fold}
use Rattle.intersection_code.proofs.intersection_into.Given as goal

abbrev pub invariant-loop-i : goal.invariant-loop-i
invariant-loop-i l =
    Folding (intersection_fold l.second) (length l.initial.out) l.room (sourced_intersection (sourced_of l.first) (sourced_of l.second)) (intersection_stages 0 (layer_of l.first) (layer_of l.second)) l.first l.out l.k l.overlays l.i
    × (l.overlays ≤ max_records * l.i)
