use Rattle.std.proofs.Common.{◌≤◌}
use Rattle.sorting.proofs.Inserting.{Inserting}
use Rattle.sorting_code.proofs.insert.Given as goal

abbrev pub invariant-loop-k : goal.invariant-loop-k
invariant-loop-k g l = Inserting l.a l.initial.s l.n l.s l.k × (l.i ≤ l.k)
