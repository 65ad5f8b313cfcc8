-- Row 3: the sizes of a point that it lets pass.
use mathlib.Core.Path.{◌≡◌}
use mathlib.Core.Bool.{true}
use Prim.Native.Nat.{ℕ, ◌≤◌}
use native.Mathlib.Omega.{arith}
use Rattle.integer.specs.declared.Int.{Int}
use Rattle.geometry.specs.Limit.{coordinate_limit, max_denominator}
use Rattle.calls.specs.Rows.{point_passes}
use Rattle.calls.proofs.Bounds.{across_of, denominator_of, denominator_small, denominator_positive, up_of, within_magnitude}
use Rattle.geometry_code.specs.Code.{point_of, SmallPoint}

pub point_small : (L : ℕ) → L ≤ coordinate_limit → (x y d : Int) → point_passes L (point_of x y d) ≡ true → SmallPoint x y d
point_small L l x y d e =
    let P = point_of x y d in
    let k = denominator_small d.v (denominator_of L P e) in
    record {
      x_small = omega (arith, l, within_magnitude L max_denominator x.v d.v (across_of L P e) k);
      y_small = omega (arith, l, within_magnitude L max_denominator y.v d.v (up_of L P e) k);
      d_small = k;
      d_positive = denominator_positive d.v (denominator_of L P e);
    }
