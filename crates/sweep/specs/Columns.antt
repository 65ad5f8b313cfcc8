-- A column: lines over the positions from p, included, to q, excluded, no two of which cross strictly inside. "Between neighbouring stops
-- the spanning edges are ordered by height, coinciding ones as one group.": the levels of the lines right of p. "A piece runs from each group where the sum leaves zero to the next
-- where it returns.": the slabs, for any weights of the lines.
use Rattle.std.specs.Prelude.{◌≡◌, Bool, true, false, not, cond, ◌&&◌, List, [], ◌∷◌, zero, suc, T, ℤ, pos, negsuc}
use Rattle.std.proofs.Math.Option.{Option, none, some}
use Rattle.lists.specs.Lists.{All, Any}
use Rattle.lists.specs.Tests.{always, bit, count_if}
use Rattle.integer.specs.Fraction.{Fraction, Proper, before}
use Rattle.levels.specs.Levels.{levels}
use Rattle.geometry.specs.declared.Line.{Line}
use Rattle.geometry.specs.Lines.{IsLine}
use Rattle.geometry.specs.Positions.{below}
use Rattle.geometry.specs.Points.{Point, IsPoint, at, under}
use Rattle.geometry.specs.Orders.{Uncrossed}
use Rattle.geometry.specs.Fitness.{BelowBetween}
use Rattle.sweep.specs.Sums.{sum}

abbrev pub is_zero : ℤ → Bool
is_zero (pos zero) = true
is_zero (pos (suc n)) = false
is_zero (negsuc n) = false

-- what lies between two groups
pub record Slab (A : Type 0) : Type 0 where
  pub bottom : A
  pub top : A

-- a point lies in it, where the test says which groups are at or below the point
abbrev pub holds : {A : Type 0} → (A → Bool) → Slab A → Bool
holds f s = f s.bottom && not (f s.top)

-- W is the sum up to a group; the option is the group where it left zero
unfoldable pub slabs : {A : Type 0} → (A → ℤ) → Option A → List A → List (Slab A)
slabs W none [] = []
slabs W none (g ∷ gs) = cond (is_zero (W g)) (slabs W none gs) (slabs W (some g) gs)
slabs W (some b) [] = []
slabs W (some b) (g ∷ gs) = cond (is_zero (W g)) (record { bottom = b; top = g } ∷ slabs W none gs) (slabs W (some b) gs)

module _ {A : Type 0} (line : A → Line) where
  abbrev pub lower : Fraction → A → A → Bool
  lower p d e = below p (line d) (line e)

  -- each of es has a line, and no two of them cross strictly between p and q
  pub record Clear (p q : Fraction) (es : List A) : Type 0 where
    pub left : Proper p
    pub right : Proper q
    pub lines : All (λ (e : A). IsLine (line e)) es
    pub uncrossed : All (λ (d : A). All (λ (e : A). Uncrossed p q (line d) (line e)) es) es

  -- d and e are of es, and d is below e strictly between p and q
  pub record Below (p q : Fraction) (es : List A) (d e : A) : Type 0 where
    pub bottom : Any (λ (s : A). d ≡ s) es
    pub top : Any (λ (s : A). e ≡ s) es
    pub between : BelowBetween p q (line d) (line e)

  module _ (weight : A → ℤ) where
    -- the sum of those at or below g right of p
    unfoldable pub up_to : Fraction → List A → A → ℤ
    up_to p es g = sum weight (λ (e : A). not (lower p g e)) es

    -- the slabs of a column that begins at p and that es run through
    unfoldable pub column : Fraction → List A → List (Slab A)
    column p es = slabs (up_to p es) none (levels (lower p) es)

    -- the sum of those at or below P
    unfoldable pub winding : Point → List A → ℤ
    winding P es = sum weight (λ (e : A). under P (line e)) es

    -- ---- the statements (proofs/Column.antt: `column_winding`, `column_open`)
    -- where the weights add up to 0, a point of the column lies in one slab if its winding number is not 0, and in none if it is
    abbrev pub ColumnWinding : Type 0
    ColumnWinding =
        (p q : Fraction) (es : List A) (P : Point) → Clear p q es → IsPoint P → T (not (before (at P) p)) → T (before (at P) q) → sum weight always es ≡ pos 0
        → count_if (holds (λ (e : A). under P (line e))) (column p es) ≡ bit (not (is_zero (winding P es)))

    -- the bottom of a slab is below its top strictly inside the column, and both are of es
    abbrev pub ColumnOpen : Type 0
    ColumnOpen = (p q : Fraction) (es : List A) → Clear p q es → All (λ (s : Slab A). Below p q es s.bottom s.top) (column p es)
