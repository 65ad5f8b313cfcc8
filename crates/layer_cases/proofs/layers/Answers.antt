-- The lengths of the two parts that are lent: both end within the 12,825 words.
use Rattle.std.proofs.Common.{arith, sym}
use lib.Seq.{length-take-le}
use Rattle.layer_cases.proofs.layers.Goals as goal

pub slice_bounds-a-end : goal.slice_bounds-a-end
slice_bounds-a-end g c = sym (length-take-le 12800 c.args.squares.now (omega (arith, c.requires)))

pub slice_bounds-equals-end : goal.slice_bounds-equals-end
slice_bounds-equals-end g c = sym (length-take-le 12775 c.args.squares.now (omega (arith, c.requires)))
