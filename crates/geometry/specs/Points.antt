-- "A rational point is X, Y, D with D at least 1, standing for (X÷D, Y÷D)." X, Y and D have any size.
use Rattle.std.specs.Prelude.{Bool, ◌≡◌, ℤ, pos, ◌<ℤ◌}
use Rattle.std.specs.Int.Signed.{le_z}
use Rattle.integer.specs.Integer.{◌⊖◌, ◌⊗◌}
use Rattle.integer.specs.Fraction.{Fraction}
use Rattle.geometry.specs.declared.Line.{Line}
use Rattle.geometry.specs.Lines.{dx, dy, offset}

pub record Point : Type 0 where
  pub X : ℤ
  pub Y : ℤ
  pub D : ℤ

abbrev pub IsPoint : Point → Type 0
IsPoint P = pos 0 <ℤ P.D

-- its horizontal position
abbrev pub at : Point → Fraction
at P = record { num = P.X; den = P.D }

-- the orientation of P to the line: its sign says that P is above, on or below it
unfoldable pub orientation : Line → Point → ℤ
orientation l P = dx l ⊗ P.Y ⊖ dy l ⊗ P.X ⊖ offset l ⊗ P.D

abbrev pub On : Line → Point → Type 0
On l P = orientation l P ≡ pos 0

-- the line is at or below P
unfoldable pub under : Point → Line → Bool
under P l = le_z (pos 0) (orientation l P)

-- P and Q stand for one point of the plane
pub record SamePoint (P Q : Point) : Type 0 where
  pub across : P.X ⊗ Q.D ≡ Q.X ⊗ P.D
  pub up : P.Y ⊗ Q.D ≡ Q.Y ⊗ P.D
