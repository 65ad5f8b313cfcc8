-- Row 13 of the calls that have it (paper 02, request (vi)), for words of any number and content and under any coordinate limit L. Each statement is proved under its name in
-- lower case in proofs/Disjoint.antt, and `DisjointTaken` in proofs/Numbers.antt.
use Rattle.std.specs.Prelude.{◌≡◌, not, List, ◌⊎◌, ◌↔◌, ℕ, ◌+◌, T, length, ℤ, Ok}
use Rattle.geometry.specs.declared.Trapezoid.{Trapezoid}
use Rattle.geometry.specs.Trapezoids.{layer_of, Disjoint}
use Rattle.overlay.specs.Overlaps.{OverlapAt}
use Rattle.files.specs.Outcomes.{is_done, refused, done}
use Rattle.calls.specs.Answers.{refused_equality, is_refused}
use Rattle.calls.specs.Rows.{both_checked, both_disjoint}
use Rattle.calls.specs.Outcomes.{combined, equal_outcome}
use Rattle.calls.specs.Components.{refused_components, counted, components_outcome}
use Rattle.calls.specs.Transistors.{three_checked, three_disjoint, transistors_outcome}
use Rattle.calls.specs.Statements.{FitAsInput}
use Rattle.geometry.specs.Refusals.{refused_by}

-- ---- the place: "13, overlap, place the later piece, checked after 11 and before 12, A before B"
-- the first overlap of A is at k, or A has none and the first of B is there, numbered on from A
abbrev pub FirstOfBoth : List Trapezoid → List Trapezoid → ℕ → Type 0
FirstOfBoth A B k = OverlapAt 0 A k ⊎ (Disjoint A × OverlapAt (length A) B k)

-- the same of three layers
abbrev pub FirstOfThree : List Trapezoid → List Trapezoid → List Trapezoid → ℕ → Type 0
FirstOfThree C B E k = FirstOfBoth C B k ⊎ (Disjoint C × Disjoint B × OverlapAt (length C + length B) E k)

-- layers that rows 7 to 11 let pass: row 13 lets them pass exactly if they are disjoint, and refuses them exactly with 13 at that place
pub record BothSearched (a b : List ℤ) : Type 0 where
  pub passed : (both_disjoint a b ≡ Ok tt) ↔ (Disjoint (layer_of a) × Disjoint (layer_of b))
  pub refused : (n k : ℕ) → (both_disjoint a b ≡ refused_by n k) ↔ ((n ≡ 13) × FirstOfBoth (layer_of a) (layer_of b) k)

abbrev pub BothDisjointExact : Type 0
BothDisjointExact = (L : ℕ) (a b : List ℤ) → both_checked L a b ≡ Ok tt → BothSearched a b

pub record ThreeSearched (c b e : List ℤ) : Type 0 where
  pub passed : (three_disjoint c b e ≡ Ok tt) ↔ (Disjoint (layer_of c) × Disjoint (layer_of b) × Disjoint (layer_of e))
  pub refused : (n k : ℕ) → (three_disjoint c b e ≡ refused_by n k) ↔ ((n ≡ 13) × FirstOfThree (layer_of c) (layer_of b) (layer_of e) k)

abbrev pub ThreeDisjointExact : Type 0
ThreeDisjointExact = (L : ℕ) (c b e : List ℤ) → three_checked L c b e ≡ Ok tt → ThreeSearched c b e

-- ---- "a call lent an overlapping one is refused": whoever succeeds was lent disjoint layers
pub record LentDisjoint : Type 0 where
  pub combine : (L code : ℕ) (a b out scratch : List ℤ) → T (is_done (combined L code a b out scratch).answer) → Disjoint (layer_of a) × Disjoint (layer_of b)
  pub equal : (L : ℕ) (a b out scratch : List ℤ) → T (not (is_refused (equal_outcome L a b out scratch).answer)) → Disjoint (layer_of a) × Disjoint (layer_of b)
  pub components : (L : ℕ) (a : List ℤ) (numbers : List ℕ) (n : ℕ) → (components_outcome L a numbers).answer ≡ counted n → Disjoint (layer_of a)
  pub transistors : (L : ℕ) (c b e : List ℤ) (list : List ℕ) (out scratch : List ℤ) (n overlays : ℕ) → (transistors_outcome L c b e list out scratch).answer ≡ done n overlays
      → Disjoint (layer_of c) × Disjoint (layer_of b) × Disjoint (layer_of e)

-- ---- and disjoint layers never meet 13
pub record DisjointTaken : Type 0 where
  pub combine : (L code : ℕ) (a b out scratch : List ℤ) → Disjoint (layer_of a) → Disjoint (layer_of b) → (place : ℕ) → (combined L code a b out scratch).answer ≡ refused 13 place → ⊥
  pub equal : (L : ℕ) (a b out scratch : List ℤ) → Disjoint (layer_of a) → Disjoint (layer_of b) → (place : ℕ) → (equal_outcome L a b out scratch).answer ≡ refused_equality 13 place → ⊥
  pub components : (L : ℕ) (a : List ℤ) (numbers : List ℕ) → Disjoint (layer_of a) → (place : ℕ) → (components_outcome L a numbers).answer ≡ refused_components 13 place → ⊥
  pub transistors : (L : ℕ) (c b e : List ℤ) (list : List ℕ) (out scratch : List ℤ) → Disjoint (layer_of c) → Disjoint (layer_of b) → Disjoint (layer_of e)
      → (place : ℕ) → (transistors_outcome L c b e list out scratch).answer ≡ refused 13 place → ⊥

-- ---- layers that are fit as input meet neither the rows 7 to 11 nor 13
abbrev pub FitTaken : Type 0
FitTaken = (L : ℕ) (a b : List ℤ) → FitAsInput L a → FitAsInput L b → (both_checked L a b ≡ Ok tt) × (both_disjoint a b ≡ Ok tt)
