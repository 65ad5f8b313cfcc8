-- Before turn i: the first i numbers are 0 to i − 1, and the rest are as they were.
use mathlib.Core.Path.{◌≡◌}
use mathlib.Core.List.{◌++◌}
use lib.ListN.{drop}
use Rattle.connectivity.specs.Components.{own_numbers}
use Rattle.connectivity_code.proofs.number_each.Given as goal

abbrev pub invariant-loop-i : goal.invariant-loop-i
invariant-loop-i l = l.numbers ≡ own_numbers l.i ++ drop l.i l.initial.numbers
