use lib.ListN.{take}
use Rattle.integer.specs.Fraction.{before}
use Rattle.geometry_code.specs.Code.{fraction_of}
use Rattle.sorting.specs.Sorted.{Passed}
use Rattle.sorting_code.specs.Entries.{fractions}
use Rattle.sorting_code.proofs.place_of.Given as goal

abbrev pub invariant-loop-i : goal.invariant-loop-i
invariant-loop-i l = Passed before (fraction_of l.p) (fractions (take l.n l.num) (take l.n l.den)) l.i
