-- Magnitudes over any coordinate limit L: dx and dy are within 2·L, offset within 2·L², det within 8·L², numer within 8·L³.
use Prim.Native.Nat.{ℕ, ◌*◌}
use native.Mathlib.Omega.{arith}
use Rattle.integer.proofs.Magnitude.{◌within◌, within_sub, within_mul, within_minor, within_more}
use Rattle.geometry.specs.declared.Line.{Line}
use Rattle.geometry.specs.Limit.{OnGrid}
use Rattle.geometry.specs.Lines.{dx, dy, offset, det, numer, MeetingWithin, ProductWithin}

module _ (L : ℕ) (l : Line) (h : OnGrid L l) where
  pub dx_within : dx l within (2 * L)
  unfolding dx
  dx_within = within_more (within_sub (record { size = h.x2 }) (record { size = h.x1 })) (omega arith)

  pub dy_within : dy l within (2 * L)
  unfolding dy
  dy_within = within_more (within_sub (record { size = h.y2 }) (record { size = h.y1 })) (omega arith)

  pub offset_within : offset l within (2 * (L * L))
  unfolding offset
  offset_within = within_minor (record { size = h.y1 }) (record { size = h.x2 }) (record { size = h.y2 }) (record { size = h.x1 })

pub meeting_within : MeetingWithin
unfolding det numer
meeting_within L l m h k =
    let a = (within_minor (dy_within L l h) (dx_within L m k) (dy_within L m k) (dx_within L l h)).size in
    let b = (within_minor (dx_within L l h) (offset_within L m k) (dx_within L m k) (offset_within L l h)).size in
    (omega arith, omega arith)

pub product_within : ProductWithin
product_within L a b h k =
    let c = (within_mul {a = a} {b = b} (record { size = h }) (record { size = k })).size in
    omega arith
