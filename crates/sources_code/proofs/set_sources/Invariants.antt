-- Before turn i: the sets of the first i records are written.
use Rattle.sources_code.proofs.Sources.{Overwritten}
use Rattle.sources_code.proofs.set_sources.Given as goal

abbrev pub invariant-loop-i : goal.invariant-loop-i
invariant-loop-i l = Overwritten l.sources l.n l.initial.out l.out l.i
