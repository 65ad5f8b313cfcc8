-- Before turn i: the words before number i are put, and those before number `start` are as they were.
use Rattle.case_parts.proofs.Putting.{Putting}
use Rattle.case_parts.proofs.fill_squares.Given as goal

abbrev pub invariant-loop-i : goal.invariant-loop-i
invariant-loop-i l = Putting l.start l.width l.sources l.initial.words l.words l.i
