use Rattle.geometry_code.proofs.Branches.{meeting_by}
use Rattle.geometry_code.proofs.meeting_of.Goals as goal

pub returns : goal.returns
returns c = meeting_by _ _ _ _ _ c.coefficients_of.ensures c.coefficients_of-2.ensures c.meeting_by.ensures
