use mathlib.Core.Path.{refl, ◌∙◌}
use native.Mathlib.Omega.{arith}
use Rattle.trapezoids_code.proofs.Writing.{fill_one}
use Rattle.trapezoids_code.proofs.put.Goals as goal

pub returns : goal.returns
returns c =
    let k = fill_one c.args.out.now c.args.room c.requires c.args.t (omega (arith, c.if-room-eq0.false)) in (refl, k.1, c.store.ensures ∙ k.2)
