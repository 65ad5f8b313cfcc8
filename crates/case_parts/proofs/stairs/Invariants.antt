-- Before turn i: the first i vertices are put.
use Rattle.std.specs.Prelude.{◌≡◌}
use Rattle.case_parts.specs.Code.{with_stairs}
use Rattle.case_parts.proofs.stairs.Given as goal

abbrev pub invariant-loop-i : goal.invariant-loop-i
invariant-loop-i l = l.file ≡ with_stairs l.i l.start l.initial.file
