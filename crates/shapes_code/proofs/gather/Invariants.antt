-- Before turn j: `grouped` holds the m trapezoids with numbers below k and, of the first j, those with the number k.
use Rattle.shapes_code.proofs.Loops.{Gathering}
use Rattle.shapes_code.proofs.gather.Given as goal

abbrev pub invariant-loop-j : goal.invariant-loop-j
invariant-loop-j l = Gathering l.k l.layer l.numbers l.m l.grouped l.j
