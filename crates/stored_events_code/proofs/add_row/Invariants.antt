use Rattle.stored_events_code.proofs.Crossings.{Row}
use Rattle.stored_events_code.proofs.add_row.Given as goal

abbrev pub invariant-loop-j : goal.invariant-loop-j
invariant-loop-j l = Row l.edges l.lines l.i l.k l.num l.den l.name l.j
