use Rattle.polygon_events_code.proofs.Branches.{mark_event}
use Rattle.polygon_events_code.proofs.mark_at.Goals as goal

pub returns : goal.returns
returns c =
    mark_event c.args.limit c.args.x.v _ _ c.mark_line.ensures c.whole_position.ensures
