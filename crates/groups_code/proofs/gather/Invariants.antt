use Rattle.geometry_code.specs.Code.{fraction_of}
use Rattle.groups_code.proofs.Gathering.{Gathering}
use Rattle.groups_code.proofs.gather.Given as goal

abbrev pub invariant-loop-i : goal.invariant-loop-i
invariant-loop-i l = Gathering l.edges l.lines l.terms (fraction_of l.at) l.i l.m l.numbers l.weights
