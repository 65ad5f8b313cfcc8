use Rattle.std.proofs.Common.{rules}
use Rattle.boxes.specs.Boxes.{boxes_apart}
use Rattle.boxes_code.proofs.next_near.Goals as goal

pub returns : goal.returns
returns c = c.next_by.ensures boxes_apart c.args.e c.args.boxes.now (λ k r h. search rules)
