use mathlib.Core.Path.{◌≡◌, ◌∙◌, ap₂}
use native.Mathlib.Nat.{mul-le-mul}
use native.Mathlib.Omega.{arith}
use lib.Signed.{le_z}
use Rattle.geometry.specs.Points.{orientation, under}
use Rattle.geometry_code.specs.Code.{point_of}
use Rattle.geometry_code.proofs.under.Goals as goal

pub sub-orientation-requires : goal.sub-orientation-requires
sub-orientation-requires c =
    let k = c.coefficients_of-k.ensures in
    let p = c.requires.1 in
    omega (arith, c.sub-u.ensures.magnitude, c.mul-a.ensures.magnitude, c.mul-b.ensures.magnitude, c.mul-c.ensures.magnitude, mul-le-mul k.small.dx_small p.y_small, mul-le-mul k.small.dy_small p.x_small, mul-le-mul k.small.offset_small p.d_small)

pub returns : goal.returns
unfolding under orientation
returns c =
    let s = c.args in
    let k = c.coefficients_of-k.ensures in
    let a = c.mul-a.ensures.v_value in
    let b = c.mul-b.ensures.v_value in
    let d = c.mul-c.ensures.v_value in
    let u = c.sub-u.ensures.v_value in
    let e : c.sub-orientation.result.v ≡ orientation s.l (point_of s.x s.y s.d)
    = c.sub-orientation.ensures.v_value ∙ rw (u, a, b, d, k.dx, k.dy, k.offset) in
    c.at_most.ensures ∙ ap₂ le_z c.of.ensures.v_value e
