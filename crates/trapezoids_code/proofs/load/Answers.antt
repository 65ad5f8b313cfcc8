use Rattle.geometry.proofs.Trapezoids.{trapezoid-at}
use Rattle.trapezoids_code.proofs.load.Goals as goal

pub returns : goal.returns
returns c =
    let s = c.args in
    cc (trapezoid-at s.s.now s.i)
