use Rattle.sources_code.proofs.Sources.{overwritten_start, overwritten_turn}
use Rattle.sources_code.proofs.set_sources.Goals as goal

pub loop-i-init : goal.loop-i-init
loop-i-init c = overwritten_start c.requires

pub loop-i-preserved : goal.loop-i-preserved
loop-i-preserved c = overwritten_turn c.loop-i.invariant c.loop-i-test.true
