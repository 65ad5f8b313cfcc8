use mathlib.Core.Path.{ap₂, ◌∙◌}
use mir.Syntax.{w64}
use mir.Facts.{to_z-of_z}
use borrow.Author.Rules.{sfits_of, rules}
use Rattle.std.specs.Int.{int_div_euclid}
use Rattle.boxes_code.proofs.Rounding.{floor_euclid}
use Rattle.boxes_code.proofs.floor.Goals as goal

pub returns-clause-v_value : goal.returns-clause-v_value
returns-clause-v_value c =
    let n = c.args.n.v in
    let d = c.args.d.v in
    to_z-of_z {w = w64} (sfits_of c.div_euclid.type_inv)
    ∙ c.div_euclid.ensures
    ∙ ap₂ int_div_euclid (to_z-of_z {w = w64} {z = n} (search rules)) (to_z-of_z {w = w64} {z = d} (search rules))
    ∙ floor_euclid n d c.requires.1
