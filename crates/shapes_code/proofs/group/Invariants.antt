-- Before turn k: `grouped` holds the n trapezoids with numbers below k, and the first k ends are right.
use Rattle.shapes_code.proofs.Loops.{Grouping}
use Rattle.shapes_code.proofs.group.Given as goal

abbrev pub invariant-loop-k : goal.invariant-loop-k
invariant-loop-k l = Grouping l.layer l.numbers l.ends l.n l.grouped l.k
