-- The verdict, branch by branch as the functions take it.
use mathlib.Core.Path.{◌≡◌, sym, ◌∙◌, ap, ap₂}
use mathlib.Core.Bool.{Bool, true, false}
use Prim.Native.Nat.{ℕ, ◌≤◌}
use Rattle.lists.specs.Lists.{All}
use Rattle.lists.specs.Tests.{all}
use Rattle.lists.proofs.Tests.{is_true, true_is}
use Rattle.lists.proofs.Lists.{all_map, all_exact}
use Rattle.geometry.specs.declared.Trapezoid.{Trapezoid}
use Rattle.geometry.specs.Limit.{coordinate_limit, OnGrid}
use Rattle.geometry.specs.Positions.{crosses, position}
use Rattle.geometry.specs.Trapezoids.{lines_of}
use Rattle.geometry.specs.Fitness.{line_on_grid, is_line, left_of, below_between, shape_verdict, verdict}
use Rattle.geometry.proofs.Fitness.{grid_exact, grid_more}
use Rattle.geometry.specs.declared.Position.{Position}
use Rattle.geometry.specs.declared.Horizontal.{Horizontal}
use Rattle.geometry.specs.declared.Horizontal.TheVariants.{Left}
use Rattle.geometry.specs.Standing.{horizontal, is_left}
use Rattle.geometry.proofs.Standing.{standing_position}
use Rattle.geometry_code.specs.Code.{fraction_of, CrossingOf}
use Rattle.std.specs.Prelude.{Some, Ok, Err}

-- ---- rows 9 to 11
module _ (t : Trapezoid) where
  pub shape_left : crosses t.left.first t.left.second ≡ false → Err 9 ≡ shape_verdict t
  unfolding shape_verdict
  shape_left h = rw (h)

  module _ (hl : crosses t.left.first t.left.second ≡ true) where
    pub shape_right : crosses t.right.first t.right.second ≡ false → Err 9 ≡ shape_verdict t
    unfolding shape_verdict
    shape_right h = rw (hl, h)

    module _ (hr : crosses t.right.first t.right.second ≡ true) where
      pub shape_bases : left_of t.left t.right ≡ false → Err 10 ≡ shape_verdict t
      unfolding shape_verdict
      shape_bases h = rw (hl, hr, h)

      pub shape_sides : left_of t.left t.right ≡ true → below_between (position t.left) (position t.right) t.bottom t.top ≡ false → Err 11 ≡ shape_verdict t
      unfolding shape_verdict
      shape_sides h k = rw (hl, hr, h, k)

      pub shape_fit : left_of t.left t.right ≡ true → below_between (position t.left) (position t.right) t.bottom t.top ≡ true → (Ok tt) ≡ shape_verdict t
      unfolding shape_verdict
      shape_fit h k = rw (hl, hr, h, k)

  -- both bases' lines cross, at p and at q, and h says how p stands to q
  module _ {p q : Position} (a : CrossingOf t.left.first t.left.second (Some p)) (b : CrossingOf t.right.first t.right.second (Some q)) {h : Horizontal} (e : h ≡ horizontal (fraction_of p) (fraction_of q)) where
    by_positions : left_of t.left t.right ≡ is_left h
    by_positions = ap is_left (standing_position t.left t.right a.0 b.0 ∙ sym (e ∙ ap₂ horizontal a.1 b.1))

    pub bases_refuse : is_left h ≡ false → Err 10 ≡ shape_verdict t
    bases_refuse k = shape_bases (true_is a.0) (true_is b.0) (by_positions ∙ k)

    module _ (k : h ≡ Left) {s : Bool} (f : s ≡ below_between (fraction_of p) (fraction_of q) t.bottom t.top) where
      by_sides : below_between (position t.left) (position t.right) t.bottom t.top ≡ s
      by_sides = sym (f ∙ rw (a.1, b.1))

      pub sides_refuse : s ≡ false → Err 11 ≡ shape_verdict t
      sides_refuse g = shape_sides (true_is a.0) (true_is b.0) (by_positions ∙ ap is_left k) (by_sides ∙ g)

      pub sides_pass : s ≡ true → Ok tt ≡ shape_verdict t
      sides_pass g = shape_fit (true_is a.0) (true_is b.0) (by_positions ∙ ap is_left k) (by_sides ∙ g)

-- ---- the verdict
module _ (L : ℕ) (t : Trapezoid) where
  pub verdict_grid : all (line_on_grid L) (lines_of t) ≡ false → Err 7 ≡ verdict L t
  unfolding verdict
  verdict_grid h = rw h

  pub verdict_lines : all (line_on_grid L) (lines_of t) ≡ true → all is_line (lines_of t) ≡ false → Err 8 ≡ verdict L t
  unfolding verdict
  verdict_lines h k = rw (h, k)

  pub verdict_shape : all (line_on_grid L) (lines_of t) ≡ true → all is_line (lines_of t) ≡ true → shape_verdict t ≡ verdict L t
  unfolding verdict
  verdict_shape h k = rw (h, k)

  pub within_limit : L ≤ coordinate_limit → all (line_on_grid L) (lines_of t) ≡ true → All (OnGrid coordinate_limit) (lines_of t)
  within_limit h e = all_map (grid_more L coordinate_limit h) (lines_of t) ((all_exact (line_on_grid L) (OnGrid L) (grid_exact L) (lines_of t)).0 (is_true e))
