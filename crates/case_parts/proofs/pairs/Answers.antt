use Rattle.case_parts.proofs.Putting.{pairs_none, pairs_more}
use Rattle.case_parts.proofs.pairs.Goals as goal

pub loop-i-init : goal.loop-i-init
loop-i-init c = pairs_none c.args.file.now

pub loop-i-preserved : goal.loop-i-preserved
loop-i-preserved c = pairs_more c.loop-i.i c.args.file.now c.loop-i.invariant c.put_number.ensures c.put_number-in-loop-i.ensures
