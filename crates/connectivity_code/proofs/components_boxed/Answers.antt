use mathlib.Core.Path.{◌∙◌}
use native.Mathlib.Omega.{arith}
use Rattle.connectivity_code.proofs.Layers.{numbers_are, count_is}
use Rattle.connectivity_code.proofs.components_boxed.Goals as goal

pub returns-clause-numbers_after : goal.returns-clause-numbers_after
returns-clause-numbers_after c = numbers_are c.args.layer.now c.args.numbers.now c.requires.1 c.number_each.ensures c.join_all.ensures

pub returns-clause-value : goal.returns-clause-value
returns-clause-value c =
    let h = c.requires in
    let k = c.count_own.ensures in
    let l = c.join_all.auto.numbers ∙ c.number_each.auto.numbers ∙ h.1 in
    (count_is c.args.layer.now c.args.numbers.now h.1 c.number_each.ensures c.join_all.ensures l k.value, omega (arith, k.upper_bound, l, h.0.layer.few))
