-- Before turn i: the first i pairs are put.
use Rattle.std.specs.Prelude.{◌≡◌}
use Rattle.case_parts.specs.Code.{with_pairs}
use Rattle.case_parts.proofs.pairs.Given as goal

abbrev pub invariant-loop-i : goal.invariant-loop-i
invariant-loop-i l = l.file ≡ with_pairs l.i l.initial.file
