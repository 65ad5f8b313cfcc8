-- Before turn i: the first refusal of the layer is that of its trapezoids from number i on.
use Rattle.fitness_code.proofs.Checking.{Checking}
use Rattle.fitness_code.proofs.first_refused.Given as goal

abbrev pub invariant-loop-i : goal.invariant-loop-i
invariant-loop-i l = Checking l.limit l.start l.words l.i
