-- The operations on trapezoids with the sets of their source layers (paper 02 (vii)), and what is proved of them. What remains and what is common is worked out
-- of the trapezoids alone, and then bears a set; stages, and so space and overlays, are those of the trapezoids alone (Space.antt).
use Rattle.std.specs.Prelude.{◌≡◌, List, [], ◌∷◌, ◌++◌, ℕ, T}
use Rattle.lists.specs.Lists.{All, Any}
use Rattle.geometry.specs.declared.Trapezoid.{Trapezoid}
use Rattle.geometry.specs.Points.{Point, IsPoint}
use Rattle.geometry.specs.Trapezoids.{lies_in}
use Rattle.geometry.specs.Fitness.{FitFor}
use Rattle.sources.specs.Sets.{has, joined}
use Rattle.sources.specs.Sourced.{Sourced, shapes, bearing}
use Rattle.overlay.specs.Overlay.{overlay, tagged}
use Rattle.boolean.specs.Operations.{Code, union, intersect, a_minus_b, b_minus_a, symmetric_difference, minus_all, result, deoverlapped}

-- ---- differences: "A difference or disjointing piece keeps the set of the piece in hand"
-- "each a is in hand", minus the trapezoids B
unfoldable pub sourced_difference : List Sourced → List Trapezoid → List Sourced
sourced_difference [] B = []
sourced_difference (a ∷ A) B = bearing a.sources (minus_all (a.shape ∷ []) B) ++ sourced_difference A B

-- ---- "an intersection piece has both sets joined bit by bit"
unfoldable pub sourced_common : Sourced → List Sourced → List Sourced
sourced_common a [] = []
sourced_common a (b ∷ bs) = bearing (joined a.sources b.sources) (tagged 3 (overlay a.shape b.shape)) ++ sourced_common a bs

unfoldable pub sourced_intersection : List Sourced → List Sourced → List Sourced
sourced_intersection [] B = []
sourced_intersection (a ∷ A) B = sourced_common a B ++ sourced_intersection A B

-- ---- the five set operations; a union keeps the sets of A, and those of B in what remains of B
abbrev pub sourced_result : Code → List Sourced → List Sourced → List Sourced
sourced_result union A B = A ++ sourced_difference B (shapes A)
sourced_result intersect A B = sourced_intersection A B
sourced_result a_minus_b A B = sourced_difference A (shapes B)
sourced_result b_minus_a A B = sourced_difference B (shapes A)
sourced_result symmetric_difference A B = sourced_difference A (shapes B) ++ sourced_difference B (shapes A)

-- ---- deoverlapping (paper 01: disjointing)
unfoldable pub sourced_deoverlapped_from : List Sourced → List Sourced → List Sourced
sourced_deoverlapped_from done [] = done
sourced_deoverlapped_from done (a ∷ A) = sourced_deoverlapped_from (done ++ bearing a.sources (minus_all (a.shape ∷ []) (shapes done))) A

abbrev pub sourced_deoverlapped : List Sourced → List Sourced
sourced_deoverlapped A = sourced_deoverlapped_from [] A

-- ---- what is proved, each under its name in lower case in proofs/Forgetting.antt and proofs/Sources.antt
-- "Sets never influence a point, tag or component": a result without its sets is the result of the layers without their sets
abbrev pub ResultForgets : Type 0
ResultForgets = (c : Code) (A B : List Sourced) → shapes (sourced_result c A B) ≡ result c (shapes A) (shapes B)

abbrev pub DeoverlappedForgets : Type 0
DeoverlappedForgets = (A : List Sourced) → shapes (sourced_deoverlapped A) ≡ deoverlapped (shapes A)

-- every rational point of t lies in u
abbrev pub Inside : Trapezoid → Trapezoid → Type 0
Inside t u = (P : Point) → IsPoint P → T (lies_in P t) → T (lies_in P u)

-- r has the set of one of us, and all its points lie in that one
abbrev pub Keeps : List Sourced → Sourced → Type 0
Keeps us r = Any (λ (u : Sourced). (r.sources ≡ u.sources) × Inside r.shape u.shape) us

-- which set each has: in a difference that of one of the first layer, and in a deoverlapped layer that of one of the layer
abbrev pub DifferenceSets : Type 0
DifferenceSets = (L : ℕ) (A : List Sourced) (B : List Trapezoid) → All (FitFor L) (shapes A) → All (FitFor L) B → All (Keeps A) (sourced_difference A B)

abbrev pub DeoverlappedSets : Type 0
DeoverlappedSets = (L : ℕ) (A : List Sourced) → All (FitFor L) (shapes A) → All (Keeps A) (sourced_deoverlapped A)

-- in an intersection those of a and of b joined, and all its points lie in both
abbrev pub Joins : Sourced → Sourced → Sourced → Type 0
Joins a b r = (r.sources ≡ joined a.sources b.sources) × Inside r.shape a.shape × Inside r.shape b.shape

abbrev pub IntersectionSets : Type 0
IntersectionSets =
    (L : ℕ) (A B : List Sourced) → All (FitFor L) (shapes A) → All (FitFor L) (shapes B)
    → All (λ (r : Sourced). Any (λ (a : Sourced). Any (λ (b : Sourced). Joins a b r) B) A) (sourced_intersection A B)

-- what a set says: for each layer in the set of r one of us has it in its set, and all points of r lie in that one. (The converse is not claimed: a union drops the
-- set of B where A lies.)
abbrev pub Traced : List Sourced → Sourced → Type 0
Traced us r = (k : ℕ) → T (has k r.sources) → Any (λ (u : Sourced). T (has k u.sources) × Inside r.shape u.shape) us

-- those that the sets of a result come from: of a difference, the layer that is in hand
abbrev pub origin : Code → List Sourced → List Sourced → List Sourced
origin union A B = A ++ B
origin intersect A B = A ++ B
origin a_minus_b A B = A
origin b_minus_a A B = B
origin symmetric_difference A B = A ++ B

abbrev pub ResultTraced : Type 0
ResultTraced = (L : ℕ) (c : Code) (A B : List Sourced) → All (FitFor L) (shapes A) → All (FitFor L) (shapes B) → All (Traced (origin c A B)) (sourced_result c A B)

abbrev pub DeoverlappedTraced : Type 0
DeoverlappedTraced = (L : ℕ) (A : List Sourced) → All (FitFor L) (shapes A) → All (Traced A) (sourced_deoverlapped A)
