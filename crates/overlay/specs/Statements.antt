-- What is proved of the overlay, for trapezoids A and B that are fit for any coordinate limit L. Each statement is proved under its name in lower case.
use Rattle.std.specs.Prelude.{◌≡◌, not, ◌++◌, ◌↔◌, ℕ, ◌≤◌, T, length}
use Rattle.lists.specs.Lists.{All, Any, Pairs}
use Rattle.geometry.specs.declared.Line.{Line}
use Rattle.geometry.specs.declared.Trapezoid.{Trapezoid}
use Rattle.geometry.specs.Points.{Point, IsPoint}
use Rattle.geometry.specs.Trapezoids.{lines_of, lies_in, LiesInLayer, Apart}
use Rattle.geometry.specs.Fitness.{FitFor}
use Rattle.overlay.specs.Overlay.{Part, overlay, tagged}

-- ---- a rational point lies in some trapezoid tagged 1 exactly if it lies in A and not in B, tagged 2 if in B and not in A, tagged 3 if in both
-- (proofs/Tags.antt)
abbrev pub TagOne : Type 0
TagOne = (L : ℕ) (A B : Trapezoid) → FitFor L A → FitFor L B → (P : Point) → IsPoint P → LiesInLayer P (tagged 1 (overlay A B)) ↔ (T (lies_in P A) × T (not (lies_in P B)))

abbrev pub TagTwo : Type 0
TagTwo = (L : ℕ) (A B : Trapezoid) → FitFor L A → FitFor L B → (P : Point) → IsPoint P → LiesInLayer P (tagged 2 (overlay A B)) ↔ (T (lies_in P B) × T (not (lies_in P A)))

abbrev pub TagThree : Type 0
TagThree = (L : ℕ) (A B : Trapezoid) → FitFor L A → FitFor L B → (P : Point) → IsPoint P → LiesInLayer P (tagged 3 (overlay A B)) ↔ (T (lies_in P A) × T (lies_in P B))

-- no rational point lies in two of them (proofs/Tags.antt)
abbrev pub PartsApart : Type 0
PartsApart = (L : ℕ) (A B : Trapezoid) → FitFor L A → FitFor L B → Pairs (λ (s t : Part). Apart s.trapezoid t.trapezoid) (overlay A B)

-- each is fit for the same limit, and each line of it is a line of A or of B, word for word (proofs/Parts.antt)
abbrev pub PartsFit : Type 0
PartsFit = (L : ℕ) (A B : Trapezoid) → FitFor L A → FitFor L B → All (λ (s : Part). FitFor L s.trapezoid) (overlay A B)

abbrev pub PartsLines : Type 0
PartsLines =
    (L : ℕ) (A B : Trapezoid) → FitFor L A → FitFor L B
    → All (λ (s : Part). All (λ (l : Line). Any (λ (m : Line). l ≡ m) (lines_of A ++ lines_of B)) (lines_of s.trapezoid)) (overlay A B)

-- "At most 15 arise" (proofs/Fifteen.antt)
abbrev pub AtMostFifteen : Type 0
AtMostFifteen = (L : ℕ) (A B : Trapezoid) → FitFor L A → FitFor L B → length (overlay A B) ≤ 15
