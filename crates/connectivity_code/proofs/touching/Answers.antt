use Rattle.connectivity_code.proofs.Branches.{range_long, range_one, range_none}
use Rattle.connectivity_code.proofs.touching.Goals as goal

pub returns-in-Left : goal.returns-in-Left
returns-in-Left c = range_long c.common_left-lo.ensures c.common_right-hi.ensures c.in-Left.ensures c.touches_along.ensures

pub returns-in-Level : goal.returns-in-Level
returns-in-Level c = range_one c.common_left-lo.ensures c.common_right-hi.ensures c.in-Level.ensures c.touches_upright.ensures

pub returns-in-Right : goal.returns-in-Right
returns-in-Right c = range_none c.common_left-lo.ensures c.common_right-hi.ensures c.in-Right.ensures
