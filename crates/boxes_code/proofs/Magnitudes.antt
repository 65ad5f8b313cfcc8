-- The sizes that the functions hand on.
use mathlib.Core.Path.{◌≡◌, sym, ◌∙◌}
use mathlib.Core.Bool.{Bool, true}
use Prim.Native.Nat.{ℕ, ◌+◌, ◌*◌, ◌<◌, ◌≤◌}
use native.Mathlib.Nat.{mul-le-mul}
use native.Mathlib.Omega.{arith}
use lib.IntN.{ℤ, nat_abs}
use Rattle.lists.proofs.Tests.{is_true}
use Rattle.integer.specs.Integer.{limit64}
use Rattle.geometry.specs.declared.Line.{Line}
use Rattle.geometry.specs.declared.Coefficients.{Coefficients}
use Rattle.geometry.specs.declared.Position.{Position}
use Rattle.geometry.specs.Limit.{on_grid, numer_bound}
use Rattle.geometry.specs.Lines.{IsLine}
use Rattle.geometry.proofs.Identities.{dx_positive}
use Rattle.geometry.proofs.Fitness.{grid_coordinate}
use Rattle.geometry_code.specs.Code.{CoefficientsOf, SmallPosition}
use Rattle.boxes.specs.Boxes.{largest_limit, near}
use Rattle.boxes_code.specs.Code.{Sizes}

-- a line's three numbers
pub sizes : {l : Line} {k : Coefficients} → IsLine l → CoefficientsOf l k → Sizes k
sizes h e = record { rightward = rw e.dx (dx_positive h); dy_small = omega (arith, e.small.dy_small); offset_small = omega (arith, e.small.offset_small) }

-- a position that `within` let pass
pub near_by : (x : ℤ) {r : Bool} → r ≡ on_grid near x → r ≡ true → nat_abs x ≤ near
near_by x e t = (grid_coordinate near x).0 (is_true (sym e ∙ t))

module _ {k : Coefficients} {x : ℕ} (s : Sizes k) (h : x ≤ near) where
  pub product_fits : nat_abs k.dy.v * x < limit64
  product_fits = let z = mul-le-mul s.dy_small h in omega (arith, z)

  module _ {m : ℕ} (e : m ≡ nat_abs k.dy.v * x) where
    pub sum_fits : m + nat_abs k.offset.v < limit64
    sum_fits = let z = mul-le-mul s.dy_small h in omega (arith, z, e, s.offset_small)

    pub rise_fits : {n : ℕ} → n ≤ m + nat_abs k.offset.v → n + 2 < limit64
    rise_fits l = let z = mul-le-mul s.dy_small h in omega (arith, z, e, s.offset_small, l)

-- a numerator at the largest limit, as `floor` and `ceiling` take it
numerator_fits : {n : ℕ} → n ≤ numer_bound largest_limit → n + 2 < limit64
numerator_fits h = omega (arith, h)

pub position_fits : {p : Position} → SmallPosition p → nat_abs p.num.v + 2 < limit64
position_fits h = numerator_fits (omega (arith, h.comparable.num_small))
