-- The point test, branch by branch as the function takes it.
use mathlib.Core.Path.{◌≡◌, sym, ◌∙◌}
use mathlib.Core.Bool.{Bool, true, false, not}
use lib.Dec.{T}
use native.Mathlib.Omega.{arith}
use Rattle.integer.specs.declared.Int.{Int}
use Rattle.integer.specs.Fraction.{before}
use Rattle.geometry.specs.declared.Base.{Base}
use Rattle.geometry.specs.declared.Trapezoid.{Trapezoid}
use Rattle.geometry.specs.declared.Position.{Position}
use Rattle.geometry.specs.declared.Horizontal.{Horizontal}
use Rattle.geometry.specs.Positions.{crosses, ratio, position}
use Rattle.geometry.specs.Standing.{horizontal, is_left}
use Rattle.geometry.specs.Points.{Point, at, under}
use Rattle.geometry.specs.Trapezoids.{lies_in}
use Rattle.geometry_code.specs.Code.{fraction_of, Comparable, SmallPosition, point_of, SmallPoint}
use Rattle.geometry_code.proofs.Branches.{small_position, answers_base}

-- the position of a point
pub point_small : {x y d : Int} → SmallPoint x y d → SmallPosition (record { num = x; den = d })
point_small h = small_position (omega (arith, h.x_small)) (omega (arith, h.d_small)) h.d_positive

-- how it stands to a base, as a comparison answers
pub point_at : {x y d : Int} {q : Position} {o : Horizontal} {s : Bool} (b : Base) → SmallPoint x y d
    → T (crosses b.first b.second) × (fraction_of q ≡ ratio b.first b.second) × Comparable q
    → o ≡ horizontal (fraction_of (record { num = x; den = d })) (fraction_of q) → s ≡ is_left o → before (at (point_of x y d)) (position b) ≡ s
point_at b h k e f = answers_base b.first b.second (point_small h) k e ∙ sym f

-- ---- the point test
module _ (P : Point) (t : Trapezoid) where
  pub point_left : crosses t.left.first t.left.second ≡ false → false ≡ lies_in P t
  unfolding lies_in
  point_left h = rw (h)

  module _ (hl : crosses t.left.first t.left.second ≡ true) where
    pub point_right : crosses t.right.first t.right.second ≡ false → false ≡ lies_in P t
    unfolding lies_in
    point_right h = rw (hl, h)

    module _ (hr : crosses t.right.first t.right.second ≡ true) where
      pub point_before : before (at P) (position t.left) ≡ true → false ≡ lies_in P t
      unfolding lies_in
      point_before h = rw (hl, hr, h)

      module _ (from : before (at P) (position t.left) ≡ false) where
        pub point_after : before (at P) (position t.right) ≡ false → false ≡ lies_in P t
        unfolding lies_in
        point_after h = rw (hl, hr, from, h)

        pub point_below : before (at P) (position t.right) ≡ true → under P t.bottom ≡ false → false ≡ lies_in P t
        unfolding lies_in
        point_below h k = rw (hl, hr, from, h, k)

        pub point_top : before (at P) (position t.right) ≡ true → under P t.bottom ≡ true → not (under P t.top) ≡ lies_in P t
        unfolding lies_in
        point_top h k = rw (hl, hr, from, h, k)
