use mathlib.Core.Path.{refl}
use Rattle.stored_events_code.proofs.Names.{event_found}
use Rattle.stored_events_code.proofs.event_number.Goals as goal

pub returns : goal.returns
returns c =
    event_found c.args.limit c.args.lines.now _ c.requires.4 _ _ _ c.get_number-x.ensures c.get_number.ensures refl _ c.base_named.ensures _ refl refl
