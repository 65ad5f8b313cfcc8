use mathlib.Core.Path.{◌∙◌, ap}
use lib.IntN.{ℤ}
use Rattle.integer.specs.Integer.{⊝◌}
use Rattle.boxes.specs.Whole.{floor, ceiling}
use Rattle.boxes_code.proofs.ceiling.Goals as goal

pub returns-clause-v_value : goal.returns-clause-v_value
unfolding ceiling
returns-clause-v_value c = c.neg-2.ensures.v_value ∙ ap ⊝◌ (c.floor.ensures.v_value ∙ ap (λ (z : ℤ). floor z c.args.d.v) c.neg.ensures.v_value)
