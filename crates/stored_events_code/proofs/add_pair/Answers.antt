use Rattle.stored_events_code.proofs.Crossings.{pair_cross}
use Rattle.stored_events_code.proofs.add_pair.Goals as goal

pub returns : goal.returns
returns c = pair_cross _ c.crossing_inside.ensures _ c.in-Some.is _ _ _ _ c.add_entry.ensures
