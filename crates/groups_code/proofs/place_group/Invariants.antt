use Rattle.geometry_code.specs.Code.{fraction_of}
use Rattle.groups_code.proofs.Placing.{Searching}
use Rattle.groups_code.proofs.place_group.Given as goal

abbrev pub invariant-loop-i : goal.invariant-loop-i
invariant-loop-i l = Searching l.a (fraction_of l.at) l.terms l.m l.numbers l.i
