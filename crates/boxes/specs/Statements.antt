-- What is proved of boxes, for trapezoids that are fit for any limit L up to 524,288. Each statement is proved under its name in lower case.
use Rattle.std.specs.Prelude.{◌≡◌, false, List, [], ◌∷◌, ℕ, ◌<◌, ◌≤◌, T, nat_abs}
use Rattle.lists.specs.Lists.{All}
use Rattle.integer.specs.Integer.{limit64}
use Rattle.geometry.specs.declared.Trapezoid.{Trapezoid}
use Rattle.geometry.specs.Points.{Point, IsPoint}
use Rattle.geometry.specs.Trapezoids.{lies_in_closed, Apart}
use Rattle.geometry.specs.Fitness.{FitFor}
use Rattle.overlay.specs.Overlaps.{overlaps}
use Rattle.boolean.specs.Operations.{minus_all}
use Rattle.connectivity.specs.Touching.{touches}
use Rattle.boxes.specs.declared.Box.{Box}
use Rattle.boxes.specs.Boxes.{largest_limit, box_of, boxes_apart, boxes_disjoint, Encloses}

-- the four numbers of a box are signed words of 64 bits
pub record Fits (e : Box) : Type 0 where
  pub left : nat_abs e.left.v < limit64
  pub right : nat_abs e.right.v < limit64
  pub bottom : nat_abs e.bottom.v < limit64
  pub top : nat_abs e.top.v < limit64

abbrev pub BoxFits : Type 0
BoxFits = (L : ℕ) → L ≤ largest_limit → (t : Trapezoid) → FitFor L t → Fits (box_of t)

-- ---- two trapezoids
-- no rational point lies in both closed forms
abbrev pub ClosedApart : Trapezoid → Trapezoid → Type 0
ClosedApart A B = (P : Point) → IsPoint P → T (lies_in_closed P A) → T (lies_in_closed P B) → ⊥

-- boxes share no point, edges counted: the closed forms share no rational point
abbrev pub BoxesApart : Type 0
BoxesApart = (L : ℕ) → L ≤ largest_limit → (A B : Trapezoid) → FitFor L A → FitFor L B → T (boxes_apart (box_of A) (box_of B)) → ClosedApart A B

-- so they do not touch
abbrev pub NoTouch : Type 0
NoTouch = (L : ℕ) → L ≤ largest_limit → (A B : Trapezoid) → FitFor L A → FitFor L B → T (boxes_apart (box_of A) (box_of B)) → touches A B ≡ false

-- boxes share no point inside: no rational point lies in both trapezoids
abbrev pub BoxesDisjoint : Type 0
BoxesDisjoint = (L : ℕ) → L ≤ largest_limit → (A B : Trapezoid) → FitFor L A → FitFor L B → T (boxes_disjoint (box_of A) (box_of B)) → Apart A B

-- so they do not overlap
abbrev pub NoOverlap : Type 0
NoOverlap = (L : ℕ) → L ≤ largest_limit → (A B : Trapezoid) → FitFor L A → FitFor L B → T (boxes_disjoint (box_of A) (box_of B)) → overlaps A B ≡ false

-- ---- a list of trapezoids in a box
-- the box of a trapezoid encloses it
abbrev pub BoxEncloses : Type 0
BoxEncloses = (L : ℕ) → L ≤ largest_limit → (A : Trapezoid) → FitFor L A → Encloses (box_of A) (A ∷ [])

-- the remainder of a trapezoid lies in its box
abbrev pub RemainderInBox : Type 0
RemainderInBox =
    (L : ℕ) → L ≤ largest_limit → (A : Trapezoid) (Bs : List Trapezoid) → FitFor L A → All (FitFor L) Bs → Encloses (box_of A) (minus_all (A ∷ []) Bs)

-- what a box encloses does not overlap what a disjoint box is of
abbrev pub NoneOverlaps : Type 0
NoneOverlaps =
    (L : ℕ) → L ≤ largest_limit → (e : Box) (ts : List Trapezoid) (B : Trapezoid) → Encloses e ts → All (FitFor L) ts → FitFor L B
    → T (boxes_disjoint e (box_of B)) → All (λ (t : Trapezoid). overlaps t B ≡ false) ts
