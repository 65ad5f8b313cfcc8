-- Before turn i: what is left of the first i trapezoids minus b stands in `out`, each took one overlay, and there is room for those not yet reached.
use Prim.Native.Nat.{◌+◌, ◌-◌, ◌≤◌}
use lib.ListN.{length}
use Rattle.records.specs.Records.{count}
use Rattle.geometry.specs.Trapezoids.{trapezoid_codec, layer_of}
use Rattle.boolean.specs.Operations.{minus}
use Rattle.boolean.specs.Space.{minus_stages}
use Rattle.remainder_code.proofs.Folding.{Folding}
use Rattle.remainder_code.proofs.MinusFold.{minus_fold}
use Rattle.remainder_code.proofs.minus_into.Given as goal

abbrev pub invariant-loop-i : goal.invariant-loop-i
invariant-loop-i l =
    Folding (minus_fold l.b.shape) (length l.initial.out) l.room (minus (layer_of l.remainder) l.b.shape) (minus_stages 0 (layer_of l.remainder) l.b.shape) l.remainder l.out l.k l.i l.i
    × (l.k + (count trapezoid_codec l.remainder - l.i) ≤ l.room)
