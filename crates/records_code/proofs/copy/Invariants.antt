-- Before turn i: the first i words of `dst` are those of `src`, which is as long, and the rest are as they were.
use Rattle.lists.proofs.Fill.{Copied}
use Rattle.records_code.proofs.copy.Given as goal

abbrev pub invariant-loop-i : goal.invariant-loop-i
invariant-loop-i l = Copied l.src l.initial.dst l.dst l.i
