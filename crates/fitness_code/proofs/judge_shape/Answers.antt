use mathlib.Core.Path.{ap}
use Rattle.geometry.specs.Standing.{is_left}
use Rattle.fitness_code.proofs.Branches.{bases_refuse, sides_refuse, sides_pass}
use Rattle.fitness_code.proofs.judge_shape.Goals as goal

pub returns-then-below_between : goal.returns-then-below_between
returns-then-below_between c =
    sides_pass c.args.t c.in-Some.ensures c.in-Some-crossing_of.ensures c.compare.ensures c.in-Left.is c.below_between.ensures c.if-below_between.true

pub returns-else-below_between : goal.returns-else-below_between
returns-else-below_between c =
    sides_refuse c.args.t c.in-Some.ensures c.in-Some-crossing_of.ensures c.compare.ensures c.in-Left.is c.below_between.ensures c.if-below_between.false

pub returns-in-Level : goal.returns-in-Level
returns-in-Level c = bases_refuse c.args.t c.in-Some.ensures c.in-Some-crossing_of.ensures c.compare.ensures (ap is_left c.in-Level.is)

pub returns-in-Right : goal.returns-in-Right
returns-in-Right c = bases_refuse c.args.t c.in-Some.ensures c.in-Some-crossing_of.ensures c.compare.ensures (ap is_left c.in-Right.is)
