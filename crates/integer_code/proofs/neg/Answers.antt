use Rattle.std.proofs.Common.{arith}
use Rattle.std.proofs.lemmas.Int.{ints}
use Rattle.integer.specs.Integer.{⊝◌}
use Rattle.integer_code.proofs.neg.Goals as goal

pub returns-clause-v_value : goal.returns-clause-v_value
unfolding ⊝◌
returns-clause-v_value c = omega (arith, ints)
