-- Fitness of a trapezoid under a coordinate limit L: what rows 7 to 11 mean, and the tests that compute it.
use Rattle.std.specs.Prelude.{◌≡◌, Bool, true, false, ◌&&◌, List, [], ◌∷◌, ◌++◌, ◌↔◌, ℕ, ◌+◌, ◌<◌, ◌≤◌, T, pos, ℤ, length, ◌<ℤ◌, Result, Ok, Err}
use Rattle.std.specs.Int.Signed.{lt_z}
use Rattle.lists.specs.Lists.{All}
use Rattle.lists.specs.Tests.{all}
use Rattle.std.specs.declared.cmp.Ordering.{Ordering}
use Rattle.std.specs.declared.cmp.Ordering.TheVariants.{Less, Equal, Greater}
use Rattle.integer.specs.Fraction.{Fraction, Proper, before}
use Rattle.records.specs.Limits.{max_records}
use Rattle.records.specs.Records.{count}
use Rattle.geometry.specs.declared.Line.{Line}
use Rattle.geometry.specs.declared.Base.{Base}
use Rattle.geometry.specs.declared.Trapezoid.{Trapezoid}
use Rattle.geometry.specs.Limit.{on_grid, OnGrid, coordinate_limit}
use Rattle.geometry.specs.Lines.{IsLine}
use Rattle.geometry.specs.Positions.{gap, crosses, heights, position}
use Rattle.geometry.specs.Standing.{is_left, base_crosses, standing, LeftOf}
use Rattle.geometry.specs.Points.{Point, IsPoint, On, SamePoint}
use Rattle.geometry.specs.Trapezoids.{lines_of, lies_in, trapezoid_codec, layer_of}
use Rattle.geometry.specs.declared.Refusal.{Refusal}
use Rattle.geometry.specs.Refusals.{refused_by}

-- ---- the meanings
-- row 9: one rational point lies on both lines, and no other
pub record CrossInOnePoint (l m : Line) : Type 0 where
  pub point : Point
  pub real : IsPoint point
  pub on_first : On l point
  pub on_second : On m point
  pub only : (Q : Point) → IsPoint Q → On l Q → On m Q → SamePoint point Q

-- row 11: the bottom is below the top at every rational position strictly between the bases
abbrev pub BelowBetween : Fraction → Fraction → Line → Line → Type 0
BelowBetween p q l m = (x : Fraction) → Proper x → T (before p x) → T (before x q) → gap l m x <ℤ pos 0

-- what each row asks of a trapezoid: row 7, grid point; 8, line; 9, base; 10, bases; 11, sides
abbrev pub GridRow : ℕ → Trapezoid → Type 0
GridRow L t = All (OnGrid L) (lines_of t)

abbrev pub LineRow : Trapezoid → Type 0
LineRow t = All IsLine (lines_of t)

abbrev pub BaseRow : Trapezoid → Type 0
BaseRow t = CrossInOnePoint t.left.first t.left.second × CrossInOnePoint t.right.first t.right.second

abbrev pub BasesRow : Trapezoid → Type 0
BasesRow t = LeftOf t.left t.right

abbrev pub SidesRow : Trapezoid → Type 0
SidesRow t = BelowBetween (position t.left) (position t.right) t.bottom t.top

pub record FitFor (L : ℕ) (t : Trapezoid) : Type 0 where
  pub grid : GridRow L t
  pub lines : LineRow t
  pub left : CrossInOnePoint t.left.first t.left.second
  pub right : CrossInOnePoint t.right.first t.right.second
  pub bases : BasesRow t
  pub sides : SidesRow t

-- ---- the tests, row by row
unfoldable pub line_on_grid : ℕ → Line → Bool
line_on_grid L l = on_grid L l.x1 && (on_grid L l.y1 && (on_grid L l.x2 && on_grid L l.y2))

unfoldable pub is_line : Line → Bool
is_line l = lt_z l.x1 l.x2

abbrev pub left_of : Base → Base → Bool
left_of b c = is_left (standing b c)

-- of the heights at the two bases: above at neither, and below at one
abbrev pub apart_by : Ordering → Ordering → Bool
apart_by Less Less = true
apart_by Less Equal = true
apart_by Less Greater = false
apart_by Equal Less = true
apart_by Equal Equal = false
apart_by Equal Greater = false
apart_by Greater o = false

unfoldable pub below_between : Fraction → Fraction → Line → Line → Bool
below_between p q l m = apart_by (heights p l m) (heights q l m)

abbrev pub pass : Bool → ℕ → Result (Unit {0}) ℕ → Result (Unit {0}) ℕ
pass true n v = v
pass false n v = Err n

-- of the rows 9 to 11
unfoldable pub shape_verdict : Trapezoid → Result (Unit {0}) ℕ
shape_verdict t =
    pass (base_crosses t.left && base_crosses t.right) 9
    (pass (left_of t.left t.right) 10
    (pass (below_between (position t.left) (position t.right) t.bottom t.top) 11
    (Ok tt)))

-- the first of the rows 7 to 11 that refuses a trapezoid
unfoldable pub verdict : ℕ → Trapezoid → Result (Unit {0}) ℕ
verdict L t = pass (all (line_on_grid L) (lines_of t)) 7 (pass (all is_line (lines_of t)) 8 (shape_verdict t))

abbrev pub refuse : Result (Unit {0}) ℕ → ℕ → Result (Unit {0}) Refusal → Result (Unit {0}) Refusal
refuse (Ok u) i c = c
refuse (Err n) i c = refused_by n i

-- "7 to 11 are completed for one piece before the next": the first refusal of a list, its places numbered on from i
unfoldable pub first_refusal : ℕ → ℕ → List Trapezoid → Result (Unit {0}) Refusal
first_refusal L i [] = Ok tt
first_refusal L i (t ∷ ts) = refuse (verdict L t) i (first_refusal L (i + 1) ts)

-- ---- the sizes of a refusal's number and place: an answer in C has 8 and 32 bits for them
abbrev pub SmallRefusal : ℕ → ℕ → Type 0
SmallRefusal number place = (number < 256) × (place < 4294967296)

-- ---- the tests say what they mean (proved in proofs/Fitness.antt under the names in lower case)
-- row 7
abbrev pub GridExact : Type 0
GridExact = (L : ℕ) (l : Line) → T (line_on_grid L l) ↔ OnGrid L l

-- row 9, of lines
abbrev pub BaseExact : Type 0
BaseExact = (l m : Line) → IsLine l → IsLine m → T (crosses l m) ↔ CrossInOnePoint l m

-- row 10, of bases whose lines cross
abbrev pub BasesExact : Type 0
BasesExact = (b c : Base) → T (base_crosses b) → T (base_crosses c) → T (left_of b c) ↔ LeftOf b c

-- row 11, between two positions
abbrev pub SidesExact : Type 0
SidesExact = (p q : Fraction) (l m : Line) → Proper p → Proper q → T (before p q) → T (below_between p q l m) ↔ BelowBetween p q l m

-- a trapezoid is let pass exactly if it is fit, and a list exactly if each of it is
abbrev pub FitExact : Type 0
FitExact = (L : ℕ) (t : Trapezoid) → (verdict L t ≡ Ok tt) ↔ FitFor L t

abbrev pub LayerExact : Type 0
LayerExact = (L i : ℕ) (ts : List Trapezoid) → (first_refusal L i ts ≡ Ok tt) ↔ All (FitFor L) ts

-- "Rows are checked downward": a trapezoid gets the number of a row exactly if it has what the rows before ask and not what this one asks;
-- and it gets no other number
pub record RowsOf (L : ℕ) (t : Trapezoid) : Type 0 where
  pub grid : (verdict L t ≡ Err 7) ↔ (GridRow L t → ⊥)
  pub line : (verdict L t ≡ Err 8) ↔ (GridRow L t × (LineRow t → ⊥))
  pub base : (verdict L t ≡ Err 9) ↔ (GridRow L t × (LineRow t × (BaseRow t → ⊥)))
  pub bases : (verdict L t ≡ Err 10) ↔ (GridRow L t × (LineRow t × (BaseRow t × (BasesRow t → ⊥))))
  pub sides : (verdict L t ≡ Err 11) ↔ (GridRow L t × (LineRow t × (BaseRow t × (BasesRow t × (SidesRow t → ⊥)))))
  pub numbers : (n : ℕ) → verdict L t ≡ Err n → (7 ≤ n) × (n ≤ 11)

abbrev pub RowExact : Type 0
RowExact = (L : ℕ) (t : Trapezoid) → RowsOf L t

-- the trapezoid at place k, counted from i on, gets row n, and each before it is fit
pub record RefusedAt (L i : ℕ) (ts : List Trapezoid) (n k : ℕ) : Type 0 where
  pub first : List Trapezoid
  pub one : Trapezoid
  pub rest : List Trapezoid
  pub split : ts ≡ first ++ (one ∷ rest)
  pub place : k ≡ i + length first
  pub fit : All (FitFor L) first
  pub row : verdict L one ≡ Err n

-- a list is refused with a number and place exactly if its trapezoid there is
abbrev pub PlaceExact : Type 0
PlaceExact = (L i : ℕ) (ts : List Trapezoid) (n k : ℕ) → (first_refusal L i ts ≡ refused_by n k) ↔ RefusedAt L i ts n k

-- what is fit for a limit is fit for every larger one
abbrev pub FitMore : Type 0
FitMore = (L M : ℕ) (t : Trapezoid) → L ≤ M → FitFor L t → FitFor M t

-- a rational point lies in every fit trapezoid
abbrev pub FitHoldsPoint : Type 0
FitHoldsPoint = (L : ℕ) (t : Trapezoid) → FitFor L t → (P : Point) × IsPoint P × T (lies_in P t)

-- the words of a layer of at most 512 trapezoids, which are fit
pub record FitLayer (s : List ℤ) : Type 0 where
  pub fit : All (FitFor coordinate_limit) (layer_of s)
  pub few : count trapezoid_codec s ≤ max_records
