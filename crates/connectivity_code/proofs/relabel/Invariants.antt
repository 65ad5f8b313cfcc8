-- Before each turn: in the numbers before it each `from` is now `to`, and the rest are as they were.
use mathlib.Core.Path.{◌≡◌}
use mathlib.Core.List.{◌++◌}
use lib.ListN.{take, drop}
use Rattle.connectivity.specs.Components.{relabelled}
use Rattle.connectivity_code.proofs.relabel.Given as goal

abbrev pub invariant-loop-n : goal.invariant-loop-n
invariant-loop-n l = l.numbers ≡ relabelled l.from l.to (take l.n-index l.initial.numbers) ++ drop l.n-index l.initial.numbers
