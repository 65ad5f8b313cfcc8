use mathlib.Core.Path.{◌≡◌, sym, ◌∙◌}
use mathlib.Core.Bool.{true}
use Rattle.geometry.specs.Positions.{crosses, meet}
use Rattle.geometry_code.specs.Code.{fraction_of, SmallPosition}
use Rattle.geometry_code.proofs.Branches.{parallel, crossed}
use Rattle.polygon_events_code.proofs.Branches.{cross_parallel, cross_first, cross_second}
use Rattle.polygon_events_code.proofs.crossing_inside.Goals as goal
use Rattle.polygon_events_code.proofs.crossing_inside.Goals.{then-is_inside, else-is_inside}

pub returns-in_err-p : goal.returns-in_err-p
returns-in_err-p c =
    let s = c.args in
    rw c.from_residual.ensures (cross_parallel s.l s.m (parallel s.l s.m c.crossing_of.result c.crossing_of.ensures c.in_err-p.was))

pub returns : goal.returns
returns c =
    let s = c.args in
    let found : (crosses s.l s.m ≡ true) × (fraction_of c.in_ok-p.p ≡ meet s.l s.m) × SmallPosition c.in_ok-p.p = crossed s.l s.m c.crossing_of.result c.in_ok-p.p c.crossing_of.ensures c.in_ok-p.was in
    rw c.then_some.ensures
    (elim c.if-is_inside.branch [
      | then-is_inside w ↦ cross_second s.l s.m c.in_ok-p.p found (sym c.is_inside.ensures ∙ w.if-is_inside.true) w.then_some-is w.is_inside-then-is_inside.ensures
      | else-is_inside w ↦ cross_first s.l s.m c.in_ok-p.p found (sym c.is_inside.ensures ∙ w.if-is_inside.false) (w.then_some-is ∙ w.if-is_inside.false)
    ])
