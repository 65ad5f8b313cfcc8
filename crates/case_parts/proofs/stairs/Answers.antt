use Rattle.case_parts.proofs.Putting.{stairs_none, stairs_more}
use Rattle.case_parts.proofs.stairs.Goals as goal

pub loop-i-init : goal.loop-i-init
loop-i-init c = stairs_none c.args.start c.args.file.now

pub loop-i-preserved : goal.loop-i-preserved
loop-i-preserved c = stairs_more c.loop-i.i c.args.start c.args.file.now c.loop-i.invariant c.stair_x.ensures c.stair_y.ensures c.put_number.ensures c.put_number-in-loop-i.ensures
