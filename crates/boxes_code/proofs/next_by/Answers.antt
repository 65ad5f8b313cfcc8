use mathlib.Core.Path.{sym}
use Rattle.boxes_code.proofs.Skipping.{skip_more}
use Rattle.boxes_code.proofs.next_by.Goals as goal

pub loop-k-preserved : goal.loop-k-preserved
loop-k-preserved g c = λ t e d h. skip_more (c.loop-k.invariant t e d h) c.loop-k-test.true (sym (h _ _ c.if-not-apart.ensures))
