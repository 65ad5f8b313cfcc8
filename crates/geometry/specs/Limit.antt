-- "A grid coordinate is a whole number from −2,048 to 2,048." Definitions and laws are over any limit L.
use Rattle.std.specs.Prelude.{Bool, ◌&&◌, ℕ, ◌*◌, ◌≤◌, ℤ, pos, nat_abs}
use Rattle.std.specs.Int.Signed.{le_z}
use Rattle.integer.specs.Integer.{⊝◌}
use Rattle.geometry.specs.declared.Line.{Line}

-- the largest limit that the functions' arithmetic is proved for
abbrev pub coordinate_limit : ℕ
coordinate_limit = 2048

-- the largest denominator of a point that is asked for: "D not 1 to 1,024"
abbrev pub max_denominator : ℕ
max_denominator = 1024

-- z is a grid coordinate under the limit L
unfoldable pub on_grid : ℕ → ℤ → Bool
on_grid L z = le_z (⊝ (pos L)) z && le_z z (pos L)

-- every coordinate of the line is
pub record OnGrid (L : ℕ) (l : Line) : Type 0 where
  pub x1 : nat_abs l.x1 ≤ L
  pub y1 : nat_abs l.y1 ≤ L
  pub x2 : nat_abs l.x2 ≤ L
  pub y2 : nat_abs l.y2 ≤ L

-- determinants are within 8·L², numerators within 8·L³
abbrev pub det_bound : ℕ → ℕ
det_bound L = 8 * (L * L)

abbrev pub numer_bound : ℕ → ℕ
numer_bound L = 8 * (L * (L * L))

-- a numerator times a determinant is within 64·L⁵: at 2,048 that is 2⁶¹, "within signed 64 bits"
abbrev pub product_bound : ℕ → ℕ
product_bound L = 64 * (L * (L * (L * (L * L))))
