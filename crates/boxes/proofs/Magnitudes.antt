-- The size of a line's heights, said for the largest limit: what is on the grid of a limit is on that of every larger one.
use mathlib.Core.Bool.{cond}
use Prim.Native.Nat.{◌*◌, ◌<◌, ◌≤◌}
use native.Mathlib.Omega.{arith}
use lib.IntN.{ℤ, pos, nat_abs}
use lib.Signed.{lt_z, ◌<ℤ◌}
use Rattle.lists.proofs.Tests.{cond_cases}
use Rattle.integer.specs.Integer.{◌⊕◌, ◌⊗◌, ⊝◌}
use Rattle.integer.proofs.Linear.{zarith, parts, minus⁺, minus⁻}
use Rattle.integer.proofs.Magnitude.{within_add, within_sub, within_mul, within_minor}
use Rattle.geometry.specs.declared.Line.{Line}
use Rattle.geometry.specs.Limit.{on_grid, OnGrid}
use Rattle.geometry.specs.Lines.{dx, dy, offset}
use Rattle.geometry.proofs.Fitness.{grid_coordinate}
use Rattle.boxes.specs.Whole.{floor, ceiling}
use Rattle.boxes.specs.Boxes.{largest_limit, near, endless, height_below, height_above, lowest, highest}
use Rattle.boxes.proofs.Whole.{floor_size, ceiling_size}

-- a height's numerator at a near position
pub rise_size : (h x o : ℤ) → nat_abs h ≤ 2 * largest_limit → nat_abs x ≤ near → nat_abs o ≤ 2 * (largest_limit * largest_limit) → nat_abs (h ⊗ x ⊕ o) < endless
rise_size h x o a b c =
    let d = (within_add {a = h ⊗ x} {b = o} (within_mul {a = h} {b = x} (record { size = a }) (record { size = b })) (record { size = c })).size in
    omega (arith, d)

-- ---- less than endless, or endless on its own side
pub record Low (z : ℤ) : Type 0 where
  pub size : nat_abs z ≤ endless
  pub less : z <ℤ pos endless

pub record High (z : ℤ) : Type 0 where
  pub size : nat_abs z ≤ endless
  pub more : ⊝ (pos endless) <ℤ z

-- a number of lesser magnitude is both
small_low : (z : ℤ) → nat_abs z < endless → Low z
small_low z h = record { size = omega (arith, h); less = omega (zarith, parts z, h) }

small_high : (z : ℤ) → nat_abs z < endless → High z
small_high z h = record { size = omega (arith, h); more = omega (zarith, parts z, h, minus⁺ (pos endless), minus⁻ (pos endless)) }

end_low : Low (⊝ (pos endless))
end_low = record { size = omega (arith, parts (⊝ (pos endless)), minus⁺ (pos endless), minus⁻ (pos endless)); less = omega (zarith, minus⁺ (pos endless), minus⁻ (pos endless)) }

end_high : High (pos endless)
end_high = record { size = omega arith; more = omega (zarith, minus⁺ (pos endless), minus⁻ (pos endless)) }

module _ (w h x o : ℤ) (a : nat_abs h ≤ 2 * largest_limit) (b : nat_abs o ≤ 2 * (largest_limit * largest_limit)) where
  pub below_low : Low (height_below w h o x)
  unfolding height_below
  below_low =
      cond_cases Low (on_grid near x) (floor (h ⊗ x ⊕ o) w) (⊝ (pos endless))
      (λ t. small_low (floor (h ⊗ x ⊕ o) w) (omega (arith, floor_size (h ⊗ x ⊕ o) w, rise_size h x o a ((grid_coordinate near x).0 t) b)))
      (λ t. end_low)

  pub above_high : High (height_above w h o x)
  unfolding height_above
  above_high =
      cond_cases High (on_grid near x) (ceiling (h ⊗ x ⊕ o) w) (pos endless)
      (λ t. small_high (ceiling (h ⊗ x ⊕ o) w) (omega (arith, ceiling_size (h ⊗ x ⊕ o) w, rise_size h x o a ((grid_coordinate near x).0 t) b)))
      (λ t. end_high)

module _ (l : Line) (g : OnGrid largest_limit l) where
  dy_size : nat_abs (dy l) ≤ 2 * largest_limit
  unfolding dy
  dy_size = let d = (within_sub {a = l.y2} {b = l.y1} (record { size = g.y2 }) (record { size = g.y1 })).size in omega (arith, d)

  offset_size : nat_abs (offset l) ≤ 2 * (largest_limit * largest_limit)
  unfolding offset
  offset_size = (within_minor (record { size = g.y1 }) (record { size = g.x2 }) (record { size = g.y2 }) (record { size = g.x1 })).size

  pub lowest_low : (left right : ℤ) → Low (lowest l left right)
  unfolding lowest
  lowest_low left right = below_low (dx l) (dy l) (cond (lt_z (dy l) (pos 0)) right left) (offset l) dy_size offset_size

  pub highest_high : (left right : ℤ) → High (highest l left right)
  unfolding highest
  highest_high left right = above_high (dx l) (dy l) (cond (lt_z (dy l) (pos 0)) left right) (offset l) dy_size offset_size
