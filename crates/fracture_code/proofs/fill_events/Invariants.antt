-- Before each turn: `out` holds the trapezoids of the columns up to the event p, which is number i − 1; those from it on are to come.
use lib.ListN.{length}
use Rattle.fracture_code.proofs.Sweeping.{Sweeping}
use Rattle.fracture_code.proofs.fill_events.Given as goal

abbrev pub invariant-loop-i : goal.invariant-loop-i
invariant-loop-i l = Sweeping l.limit l.edges l.lines l.terms l.n l.num l.den l.name (length l.initial.out) l.room l.numbers l.weights l.out l.p l.done l.i
