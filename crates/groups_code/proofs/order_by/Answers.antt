use Rattle.geometry_code.specs.Code.{fraction_of}
use Rattle.groups_code.proofs.Placing.{ordered_by}
use Rattle.groups_code.proofs.order_by.Goals as goal

pub returns : goal.returns
returns c = ordered_by _ _ _ (fraction_of c.args.at) _ c.meeting_by.ensures c.order_right.ensures
