-- What is proved of heights and of the order right of a position, for all lines, positions and points, of any size.
-- Each statement is proved in proofs/Orders.antt under its name in lower case.
use Rattle.std.specs.Prelude.{◌≡◌, not, ◌⊎◌, T, pos, ◌≤ℤ◌, ◌<ℤ◌}
use Rattle.integer.specs.Fraction.{Fraction, Proper, before}
use Rattle.geometry.specs.declared.Line.{Line}
use Rattle.geometry.specs.declared.Horizontal.TheVariants.{Level}
use Rattle.geometry.specs.Lines.{IsLine, det}
use Rattle.geometry.specs.Positions.{gap, below}
use Rattle.geometry.specs.Standing.{horizontal}
use Rattle.geometry.specs.Points.{Point, IsPoint, at, orientation, On, under}

-- the gap is the place of l's point over x against m: above it, on it or below it
abbrev pub GapMeans : Type 0
GapMeans = (l m : Line) (x : Fraction) → IsLine l → Proper x → (P : Point) × IsPoint P × (horizontal (at P) x ≡ Level) × On l P × (orientation m P ≡ gap l m x)

-- at or below at a position: total and transitive
abbrev pub HeightsTotal : Type 0
HeightsTotal = (x : Fraction) (l m : Line) → (gap l m x ≤ℤ pos 0) ⊎ (gap m l x ≤ℤ pos 0)

abbrev pub HeightsTransitive : Type 0
HeightsTransitive = (x : Fraction) (l m k : Line) → IsLine l → IsLine m → IsLine k → gap l m x ≤ℤ pos 0 → gap m k x ≤ℤ pos 0 → gap l k x ≤ℤ pos 0

-- of equal height everywhere
abbrev pub Coincide : Line → Line → Type 0
Coincide l m = (x : Fraction) → gap l m x ≡ pos 0

-- below right of a position: total and transitive up to coincidence
abbrev pub RightTotal : Type 0
RightTotal = (p : Fraction) (l m : Line) → Proper p → T (below p l m) ⊎ (Coincide l m ⊎ T (below p m l))

abbrev pub RightTransitive : Type 0
RightTransitive = (p : Fraction) (l m k : Line) → IsLine l → IsLine m → IsLine k → T (not (below p m l)) → T (not (below p k m)) → T (not (below p k l))

-- l and m do not cross strictly between p and q: where they meet there, they have one slope
abbrev pub Uncrossed : Fraction → Fraction → Line → Line → Type 0
Uncrossed p q l m = (x : Fraction) → Proper x → T (before p x) → T (before x q) → gap l m x ≡ pos 0 → det l m ≡ pos 0

-- lines that do not cross strictly between two positions, in order right of the first, stay so up to the second: strictly inside, weakly at the ends
abbrev pub StayInOrder : Type 0
StayInOrder =
    (p q : Fraction) (l m : Line) → Proper p → Proper q → T (before p q) → Uncrossed p q l m → T (below p l m)
    → ((x : Fraction) → Proper x → T (before p x) → T (before x q) → gap l m x <ℤ pos 0) × (gap l m p ≤ℤ pos 0) × (gap l m q ≤ℤ pos 0)

-- a line at or below another at a point's position, and the other at or below the point, give the line at or below the point
abbrev pub UnderTransitive : Type 0
UnderTransitive = (l m : Line) (P : Point) → IsLine l → IsLine m → gap l m (at P) ≤ℤ pos 0 → T (under P m) → T (under P l)
