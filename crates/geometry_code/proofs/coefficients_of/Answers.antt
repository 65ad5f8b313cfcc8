use mathlib.Core.Path.{◌≡◌, ◌∙◌}
use Prim.Native.Nat.{◌≤◌}
use lib.IntN.{nat_abs}
use Rattle.integer.specs.Integer.{◌⊖◌, ◌⊗◌}
use Rattle.integer.proofs.Magnitude.{within_is}
use Rattle.geometry.specs.declared.Line.{Line}
use Rattle.geometry.specs.declared.Corners.{Corners}
use Rattle.geometry.specs.declared.Coefficients.{Coefficients}
use Rattle.geometry.specs.Limit.{coordinate_limit, OnGrid}
use Rattle.geometry.specs.Lines.{dx, dy, offset}
use Rattle.geometry.proofs.Magnitudes.{dx_within, dy_within, offset_within}
use Rattle.geometry_code.specs.Code.{CornersOf, CoefficientsOf}
use Rattle.geometry_code.proofs.coefficients_of.Goals as goal

-- the corners' coordinates are within the limit
record Near (k : Corners) : Type 0 where
  x1 : nat_abs k.x1.v ≤ coordinate_limit
  y1 : nat_abs k.y1.v ≤ coordinate_limit
  x2 : nat_abs k.x2.v ≤ coordinate_limit
  y2 : nat_abs k.y2.v ≤ coordinate_limit

-- the three numbers, with the magnitudes that they have under any limit
coefficients : (l : Line) (k : Corners) (r : Coefficients) → OnGrid coordinate_limit l → CornersOf l k → r.dx.v ≡ k.x2.v ⊖ k.x1.v → r.dy.v ≡ k.y2.v ⊖ k.y1.v
    → r.offset.v ≡ k.y1.v ⊗ k.x2.v ⊖ k.y2.v ⊗ k.x1.v → CoefficientsOf l r
unfolding dx dy offset
coefficients l k r h e across up along =
    let d : r.dx.v ≡ dx l = across ∙ rw (e.x1, e.x2) in
    let y : r.dy.v ≡ dy l = up ∙ rw (e.y1, e.y2) in
    let o : r.offset.v ≡ offset l = along ∙ rw (e.x1, e.x2, e.y1, e.y2) in
    record {
      dx = d;
      dy = y;
      offset = o;
      small = record {
        dx_small = (within_is d (dx_within coordinate_limit l h)).size;
        dy_small = (within_is y (dy_within coordinate_limit l h)).size;
        offset_small = (within_is o (offset_within coordinate_limit l h)).size;
      };
    }

pub returns : goal.returns
returns c =
    coefficients _ _ _ c.requires c.corners_of-k.ensures c.sub-dx.ensures.v_value c.sub-dy.ensures.v_value
    (c.sub-offset.ensures.v_value ∙ rw (c.mul-a.ensures.v_value, c.mul-b.ensures.v_value))
