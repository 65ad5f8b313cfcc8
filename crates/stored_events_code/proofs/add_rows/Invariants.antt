use Rattle.stored_events_code.proofs.Crossings.{Rows}
use Rattle.stored_events_code.proofs.add_rows.Given as goal

abbrev pub invariant-loop-i : goal.invariant-loop-i
invariant-loop-i l = Rows l.edges l.lines l.n l.num l.den l.name l.i
