-- Before turn i: the first refusal of the body is that of its trapezoids from number i on.
use Rattle.fitness_code.proofs.Checking.{Checking}
use Rattle.files_code.proofs.Bodies.{in_memory}
use Rattle.files_code.proofs.body_refused.Given as goal

abbrev pub invariant-loop-i : goal.invariant-loop-i
invariant-loop-i l = Checking l.limit 0 (in_memory l.body) l.i
