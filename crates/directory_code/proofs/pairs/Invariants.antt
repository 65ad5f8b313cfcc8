-- Before turn i: the answer is that of the pairs from number i on, with `total` units before them, no more than the format allows.
use Rattle.directory_code.proofs.Walking.{Walking}
use Rattle.directory_code.proofs.pairs.Given as goal

abbrev pub invariant-loop-i : goal.invariant-loop-i
invariant-loop-i g l = Walking l.f (g.W.Words.words l.words) l.n l.i l.total
