use mathlib.Core.Path.{sym, ◌∙◌, ap}
use native.Mathlib.Omega.{arith}
use lib.IntN.{ℤ}
use lib.Signed.{lt_z}
use mir.Syntax.{w32}
use mir.Val.{SFits}
use mir.Facts.{to_z-of_z}
use Rattle.integer.specs.Integer.{◌⊕◌, ◌⊖◌}
use Rattle.integer_code.proofs.Word.{fits}
use Rattle.polygon_events_code.proofs.Branches.{mark_rising, mark_falling}
use Rattle.polygon_events_code.proofs.mark_line.Goals as goal

pub returns-then-less : goal.returns-then-less
returns-then-less c =
    let one = c.of-one in
    let fk : SFits w32 c.narrow.result = fits _ (omega (arith, c.narrow.ensures.magnitude, c.requires.0, c.requires.1)) in
    let fn : SFits w32 c.narrow-then-less.result = fits _ (omega (arith, c.narrow-then-less.ensures.magnitude, c.add.ensures.magnitude, one.ensures.magnitude, c.requires.0, c.requires.1)) in
    mark_rising _ _ _ _ (to_z-of_z fk ∙ c.narrow.ensures.value) (to_z-of_z fn ∙ c.narrow-then-less.ensures.value ∙ c.add.ensures.v_value ∙ ap (λ (z : ℤ). c.args.x.v ⊕ z) one.ensures.v_value) (sym (c.less.ensures ∙ ap (lt_z c.args.x.v) c.natural.ensures.v_value) ∙ c.if-less.true)

pub returns-else-less : goal.returns-else-less
returns-else-less c =
    let one = c.of-one in
    let fn : SFits w32 c.narrow-else-less.result = fits _ (omega (arith, c.narrow-else-less.ensures.magnitude, c.sub.ensures.magnitude, one.ensures.magnitude, c.requires.0, c.requires.1)) in
    let fk : SFits w32 c.narrow-else-less-2.result = fits _ (omega (arith, c.narrow-else-less-2.ensures.magnitude, c.requires.0, c.requires.1)) in
    mark_falling _ _ _ _ (to_z-of_z fn ∙ c.narrow-else-less.ensures.value ∙ c.sub.ensures.v_value ∙ ap (λ (z : ℤ). c.args.x.v ⊖ z) one.ensures.v_value) (to_z-of_z fk ∙ c.narrow-else-less-2.ensures.value) (sym (c.less.ensures ∙ ap (lt_z c.args.x.v) c.natural.ensures.v_value) ∙ c.if-less.false) c.requires.0
