-- Before each turn: `out` holds n trapezoids of the column, those that end at the first k groups, whose directions sum up to `sum`.
-- `bottom` is the bottom of the trapezoid that is open there, if one has begun.
use lib.ListN.{length}
use Rattle.fracture_code.proofs.Slabs.{Stacked}
use Rattle.fracture_code.proofs.fill_groups.Given as goal

abbrev pub invariant-loop-k : goal.invariant-loop-k
invariant-loop-k l = Stacked l.lines l.left l.right (length l.initial.out) l.room l.m l.numbers l.weights l.out l.sum l.bottom l.n l.k
