-- Whether a rational point lies in both of two trapezoids A and B: the meaning, and the test that computes it; and the first two of a list that have one.
use Rattle.std.specs.Prelude.{◌≡◌, Bool, true, false, not, ◌&&◌, ◌||◌, List, [], ◌∷◌, ◌++◌, ◌↔◌, ℕ, ◌+◌, T, length, Result, Ok}
use Rattle.lists.specs.Lists.{All, Any, Pairs}
use Rattle.lists.specs.Tests.{any}
use Rattle.integer.specs.Fraction.{Fraction, before}
use Rattle.geometry.specs.declared.Base.{Base}
use Rattle.geometry.specs.declared.Trapezoid.{Trapezoid}
use Rattle.geometry.specs.Positions.{crosses, position, below}
use Rattle.geometry.specs.Points.{Point, IsPoint}
use Rattle.geometry.specs.Trapezoids.{lies_in, Disjoint}
use Rattle.geometry.specs.Fitness.{FitFor}
use Rattle.geometry.specs.Ranges.{common_left, common_right, crossing}
use Rattle.geometry.specs.declared.Refusal.{Refusal}
use Rattle.geometry.specs.Refusals.{refused_by}

-- the meaning: "no rational point in both" denies it
abbrev pub Common : Trapezoid → Trapezoid → Type 0
Common A B = (P : Point) × IsPoint P × T (lies_in P A) × T (lies_in P B)

-- the two lines cross strictly inside the common range
unfoldable pub crosses_in_common : Trapezoid → Trapezoid → Base → Bool
crosses_in_common A B k = crosses k.first k.second && (before (common_left A B) (position k) && before (position k) (common_right A B))

-- ---- the test
-- right of p each bottom is below the other's top
unfoldable pub overlap_right : Trapezoid → Trapezoid → Fraction → Bool
overlap_right A B p = below p A.bottom B.top && below p B.bottom A.top

-- the two lines cross inside the common range, and right of there A and B overlap
unfoldable pub overlap_from : Trapezoid → Trapezoid → Base → Bool
overlap_from A B k = crosses_in_common A B k && overlap_right A B (position k)

-- the common points begin where the common range does, or where a bottom crosses the other's top
unfoldable pub overlaps : Trapezoid → Trapezoid → Bool
overlaps A B =
    before (common_left A B) (common_right A B)
    && (overlap_right A B (common_left A B) || (overlap_from A B (crossing A.bottom B.top) || overlap_from A B (crossing A.top B.bottom)))

-- the test says yes exactly if some rational point lies in both (proofs/Overlaps.antt: `overlaps_exact`)
abbrev pub OverlapsExact : Type 0
OverlapsExact = (L : ℕ) (A B : Trapezoid) → FitFor L A → FitFor L B → T (overlaps A B) ↔ Common A B

-- a list of fit trapezoids is disjoint exactly if the test says no of each pair (`disjoint_exact`, there)
abbrev pub DisjointExact : Type 0
DisjointExact = (L : ℕ) (ts : List Trapezoid) → All (FitFor L) ts → Disjoint ts ↔ Pairs (λ (t u : Trapezoid). T (not (overlaps t u))) ts

-- ---- row 13: "refused at the first overlapping pair, taken by its later piece and then its earlier"
abbrev pub refuse_overlap : Bool → ℕ → Result (Unit {0}) Refusal → Result (Unit {0}) Refusal
refuse_overlap true i c = refused_by 13 i
refuse_overlap false i c = c

-- of a list behind others, its places numbered on from i: each in turn with all before it
unfoldable pub overlap_past : List Trapezoid → ℕ → List Trapezoid → Result (Unit {0}) Refusal
overlap_past earlier i [] = Ok tt
overlap_past earlier i (t ∷ ts) = refuse_overlap (any (overlaps t) earlier) i (overlap_past (earlier ++ (t ∷ [])) (i + 1) ts)

-- of a layer
abbrev pub first_overlap : ℕ → List Trapezoid → Result (Unit {0}) Refusal
first_overlap i ts = overlap_past [] i ts

-- the trapezoid at place k, counted from i on, has a rational point in common with one before it, and no two before it have one
pub record OverlapAt (i : ℕ) (ts : List Trapezoid) (k : ℕ) : Type 0 where
  pub first : List Trapezoid
  pub later : Trapezoid
  pub rest : List Trapezoid
  pub split : ts ≡ first ++ (later ∷ rest)
  pub place : k ≡ i + length first
  pub disjoint : Disjoint first
  pub overlap : Any (Common later) first

-- a list of fit trapezoids passes exactly if it is disjoint, and is refused exactly with 13 at the first that overlaps one before it (proofs/Search.antt: `first_overlap_exact`)
pub record FirstOverlap (i : ℕ) (ts : List Trapezoid) : Type 0 where
  pub passed : (first_overlap i ts ≡ Ok tt) ↔ Disjoint ts
  pub refused : (n k : ℕ) → (first_overlap i ts ≡ refused_by n k) ↔ ((n ≡ 13) × OverlapAt i ts k)

abbrev pub FirstOverlapExact : Type 0
FirstOverlapExact = (L i : ℕ) (ts : List Trapezoid) → All (FitFor L) ts → FirstOverlap i ts
