use mathlib.Core.Path.{sym, ◌∙◌}
use native.Mathlib.Omega.{arith}
use Rattle.files.proofs.Numbers.{number}
use Rattle.directory_code.proofs.count_of.Goals as goal

pub overflow_mul-n : goal.overflow_mul-n
overflow_mul-n c =
    record { fits = omega (arith, (number 0 c.args.f.count c.args.first.v (sym c.number_from.ensures ∙ c.in_ok-n.was)).high, c.requires.count) }

pub overflow_add-n : goal.overflow_add-n
overflow_add-n c =
    record { fits = omega (arith, (number 0 c.args.f.count c.args.first.v (sym c.number_from.ensures ∙ c.in_ok-n.was)).high, c.requires.count) }
