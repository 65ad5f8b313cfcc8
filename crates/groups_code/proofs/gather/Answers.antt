use Rattle.geometry_code.specs.Code.{fraction_of}
use Rattle.groups_code.proofs.Gathering.{gathering_start, gathering_asks, gathering_next}
use Rattle.groups_code.proofs.gather.Goals as goal

pub loop-i-init : goal.loop-i-init
loop-i-init c = gathering_start (fraction_of c.args.at) c.requires.0 _ _ c.requires.2 c.requires.3

pub add_spanning-m-requires : goal.add_spanning-m-requires
add_spanning-m-requires c =
    let a = gathering_asks (fraction_of c.args.at) c.requires.0 c.loop-i.invariant c.loop-i-test.true in
    (a.0, c.requires.1, a.1, a.2)

pub loop-i-preserved : goal.loop-i-preserved
loop-i-preserved c =
    let g = c.add_spanning-m in
    gathering_next (fraction_of c.args.at) c.requires.0 c.loop-i.invariant c.loop-i-test.true _ _ _ g.auto.numbers g.auto.weights g.ensures
