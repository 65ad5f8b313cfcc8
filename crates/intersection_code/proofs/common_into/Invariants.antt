-- Before turn i: what a has in common with the first i trapezoids of the layer stands in `out`, and each counts one overlay.
use lib.ListN.{length}
use Rattle.geometry.specs.Trapezoids.{layer_of}
use Rattle.sources.specs.Sourced.{sourced_of}
use Rattle.boolean.specs.Sources.{sourced_common}
use Rattle.boolean.specs.Space.{common_stages}
use Rattle.remainder_code.proofs.Folding.{Folding}
use Rattle.intersection_code.proofs.Folds.{owned, common_fold}
use Rattle.intersection_code.proofs.common_into.Given as goal

abbrev pub invariant-loop-i : goal.invariant-loop-i
invariant-loop-i l =
    Folding (common_fold (owned l.a.shape l.sources)) (length l.initial.out) l.room (sourced_common (owned l.a.shape l.sources) (sourced_of l.layer)) (common_stages 0 l.a.shape (layer_of l.layer)) l.layer l.out l.k l.i l.i
