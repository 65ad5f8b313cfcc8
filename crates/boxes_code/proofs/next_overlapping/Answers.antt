use Rattle.std.proofs.Common.{rules}
use Rattle.boxes.specs.Boxes.{boxes_disjoint}
use Rattle.boxes_code.proofs.next_overlapping.Goals as goal

pub returns : goal.returns
returns c = c.next_by.ensures boxes_disjoint c.args.e c.args.boxes.now (λ k r h. search rules)
