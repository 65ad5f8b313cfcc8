-- What is proved of the operations, for layers of trapezoids that are fit for any coordinate limit L. Each statement is proved under its name in
-- lower case.
use Rattle.std.specs.Prelude.{◌≡◌, List, [], ◌++◌, Bool, ◌↔◌, ℕ, T}
use Rattle.lists.specs.Lists.{All, Any}
use Rattle.geometry.specs.declared.Line.{Line}
use Rattle.geometry.specs.declared.Trapezoid.{Trapezoid}
use Rattle.geometry.specs.Points.{Point, IsPoint}
use Rattle.geometry.specs.Trapezoids.{lines_of, LiesInLayer, Disjoint}
use Rattle.geometry.specs.Fitness.{FitFor}
use Rattle.boolean.specs.Operations.{Code, result, says, difference, deoverlapped}

-- whether a point lies in a layer, as a yes or no
abbrev pub IsYes : Bool → Type 0 → Type 0
IsYes b X = T b ↔ X

-- a rational point lies in the result exactly if the set words say so
abbrev pub ResultExact : Type 0
ResultExact =
    (L : ℕ) (A B : List Trapezoid) → All (FitFor L) A → All (FitFor L) B → (P : Point) → IsPoint P → (c : Code) (a b : Bool)
    → IsYes a (LiesInLayer P A) → IsYes b (LiesInLayer P B) → IsYes (says c a b) (LiesInLayer P (result c A B))

-- disjoint layers give a disjoint result
abbrev pub ResultDisjoint : Type 0
ResultDisjoint = (L : ℕ) (A B : List Trapezoid) → All (FitFor L) A → All (FitFor L) B → Disjoint A → Disjoint B → (c : Code) → Disjoint (result c A B)

-- the result is fit for the same limit, and each of its lines is a line of A or of B, word for word
abbrev pub ResultFit : Type 0
ResultFit = (L : ℕ) (A B : List Trapezoid) → All (FitFor L) A → All (FitFor L) B → (c : Code) → All (FitFor L) (result c A B)

-- l is a line of one of ts
abbrev pub LineOf : List Trapezoid → Line → Type 0
LineOf ts l = Any (λ (t : Trapezoid). Any (λ (m : Line). l ≡ m) (lines_of t)) ts

abbrev pub LinesFrom : List Trapezoid → List Trapezoid → Type 0
LinesFrom us ts = All (λ (t : Trapezoid). All (LineOf us) (lines_of t)) ts

abbrev pub ResultLines : Type 0
ResultLines = (L : ℕ) (A B : List Trapezoid) → All (FitFor L) A → All (FitFor L) B → (c : Code) → LinesFrom (A ++ B) (result c A B)

-- deoverlapping keeps the points, and gives a disjoint layer that is fit
abbrev pub DeoverlappedExact : Type 0
DeoverlappedExact = (L : ℕ) (A : List Trapezoid) → All (FitFor L) A → (P : Point) → IsPoint P → LiesInLayer P (deoverlapped A) ↔ LiesInLayer P A

abbrev pub DeoverlappedDisjoint : Type 0
DeoverlappedDisjoint = (L : ℕ) (A : List Trapezoid) → All (FitFor L) A → Disjoint (deoverlapped A)

abbrev pub DeoverlappedFit : Type 0
DeoverlappedFit = (L : ℕ) (A : List Trapezoid) → All (FitFor L) A → All (FitFor L) (deoverlapped A)

abbrev pub DeoverlappedLines : Type 0
DeoverlappedLines = (L : ℕ) (A : List Trapezoid) → All (FitFor L) A → LinesFrom A (deoverlapped A)

-- "no rational point lies in one and not in the other"
abbrev pub SamePoints : List Trapezoid → List Trapezoid → Type 0
SamePoints A B = (P : Point) → IsPoint P → LiesInLayer P A ↔ LiesInLayer P B

-- both differences are empty exactly if the layers have the same points
abbrev pub EqualityExact : Type 0
EqualityExact = (L : ℕ) (A B : List Trapezoid) → All (FitFor L) A → All (FitFor L) B → ((difference A B ≡ []) × (difference B A ≡ [])) ↔ SamePoints A B

-- some rational point lies in A and not in B
pub record Beyond (A B : List Trapezoid) : Type 0 where
  pub point : Point
  pub real : IsPoint point
  pub inside : LiesInLayer point A
  pub outside : LiesInLayer point B → ⊥

-- a difference is not empty exactly if some rational point lies in the first layer and not in the second
abbrev pub DifferenceSome : Type 0
DifferenceSome = (L : ℕ) (A B : List Trapezoid) → All (FitFor L) A → All (FitFor L) B → (difference A B ≡ [] → ⊥) ↔ Beyond A B
