use Rattle.stored_events_code.proofs.Names.{name_pair, name_single}
use Rattle.stored_events_code.proofs.base_named.Goals as goal

pub returns-then-id-lt1024 : goal.returns-then-id-lt1024
returns-then-id-lt1024 c = name_pair c.args.limit c.args.lines.now c.args.x.v c.args.id _ _ c.line_at.ensures c.line_at-then-id-lt1024.ensures c.if-id-lt1024.true

pub returns-else-id-lt1024 : goal.returns-else-id-lt1024
returns-else-id-lt1024 c = name_single c.args.limit c.args.lines.now c.args.x.v c.args.id _ c.mark_at.ensures c.if-id-lt1024.false
