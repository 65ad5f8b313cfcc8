use mathlib.Core.Path.{sym, ◌∙◌}
use Rattle.fitness_code.proofs.Branches.{within_limit}
use Rattle.fitness_code.proofs.judge.Goals as goal

pub judge_shape-requires : goal.judge_shape-requires
judge_shape-requires c = within_limit c.args.limit c.args.t c.requires (sym c.on_grid.ensures ∙ c.if-not-on_grid.false)
