use Rattle.boxes_code.proofs.Slices.{fill_turn}
use Rattle.boxes_code.proofs.extend_boxes.Goals as goal

pub loop-i-preserved : goal.loop-i-preserved
loop-i-preserved c =
    let b = c.box_at in
    fill_turn c.loop-i.invariant c.loop-i-test.true b.result b.ensures _ c.set_box.ensures
