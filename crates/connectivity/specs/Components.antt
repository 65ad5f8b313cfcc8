-- The component numbers of a list of trapezoids, the number of components, and what is proved of them.
use Rattle.std.specs.Prelude.{◌≡◌, Bool, true, false, cond, List, [], ◌∷◌, ◌++◌, ◌↔◌, ℕ, zero, suc, ◌<◌, ◌≤◌, max, min, eqb, length, get_or}
use Rattle.lists.specs.Lists.{All, Any, Pairs}
use Rattle.lists.specs.Tests.{test_at}
use Rattle.geometry.specs.declared.Trapezoid.{Trapezoid}
use Rattle.geometry.specs.Fitness.{FitFor}
use Rattle.connectivity.specs.Touching.{touches}
use Rattle.connectivity.specs.Paths.{Reachable, TouchAt}

-- ---- numbers, one for each trapezoid
abbrev pub number_at : List ℕ → ℕ → ℕ
number_at ns i = get_or ns i 0

-- at first each has its own: 0 to n − 1
unfoldable pub own_numbers : ℕ → List ℕ
own_numbers zero = []
own_numbers (suc n) = own_numbers n ++ (n ∷ [])

-- each `from` becomes `to`
unfoldable pub relabelled : ℕ → ℕ → List ℕ → List ℕ
relabelled from to [] = []
relabelled from to (n ∷ ns) = cond (eqb n from) to n ∷ relabelled from to ns

-- the numbers of i and j become one: whoever has the greater gets the lesser
unfoldable pub joined_numbers : ℕ → ℕ → List ℕ → List ℕ
joined_numbers i j ns = relabelled (max (number_at ns i) (number_at ns j)) (min (number_at ns i) (number_at ns j)) ns

abbrev pub joined_if : Bool → ℕ → ℕ → List ℕ → List ℕ
joined_if true i j ns = joined_numbers i j ns
joined_if false i j ns = ns

-- of a test of two numbers: i is joined with each of 0 to j − 1 for which it says yes, in order
unfoldable pub joined_first : (ℕ → ℕ → Bool) → ℕ → ℕ → List ℕ → List ℕ
joined_first test i zero ns = ns
joined_first test i (suc j) ns = joined_if (test i j) i j (joined_first test i j ns)

-- each of 0 to n − 1 in turn is joined with those before it
unfoldable pub joined_all : (ℕ → ℕ → Bool) → ℕ → List ℕ → List ℕ
joined_all test zero ns = ns
joined_all test (suc i) ns = joined_first test i i (joined_all test i ns)

abbrev pub cons_if : Bool → ℕ → List ℕ → List ℕ
cons_if true n ns = n ∷ ns
cons_if false n ns = ns

-- of 0 to n − 1 those with their own number, the greatest first
unfoldable pub owners : List ℕ → ℕ → List ℕ
owners ns zero = []
owners ns (suc i) = cons_if (eqb (number_at ns i) i) i (owners ns i)

-- ---- components
-- the trapezoids with the numbers i and j touch
unfoldable pub touching_at : List Trapezoid → ℕ → ℕ → Bool
touching_at ts i j = test_at (λ (t : Trapezoid). test_at (touches t) ts j) ts i

-- "Each gets the lowest piece number of its component"
unfoldable pub component_numbers : List Trapezoid → List ℕ
component_numbers ts = joined_all (touching_at ts) (length ts) (own_numbers (length ts))

-- "the answer counts components": the trapezoids with their own number
unfoldable pub component_count : List Trapezoid → ℕ
component_count ts = length (owners (component_numbers ts) (length ts))

-- ---- what they mean
-- ns has n different numbers
pub record Different (ns : List ℕ) (n : ℕ) : Type 0 where
  pub list : List ℕ
  pub apart : Pairs (λ (a b : ℕ). a ≡ b → ⊥) list
  pub all : (k : ℕ) → Any (λ (m : ℕ). k ≡ m) list ↔ Any (λ (m : ℕ). k ≡ m) ns
  pub many : length list ≡ n

pub record ComponentsOf (ts : List Trapezoid) (ns : List ℕ) (n : ℕ) : Type 0 where
  pub one_each : length ns ≡ length ts
  -- demand 2: two trapezoids get one component number exactly if a chain of touching ones joins them
  pub exact : (i j : ℕ) → i < length ts → j < length ts → (number_at ns i ≡ number_at ns j) ↔ Reachable (TouchAt ts) i j
  -- "Each gets the lowest piece number of its component"
  pub own : (i : ℕ) → i < length ts → Reachable (TouchAt ts) i (number_at ns i)
  pub lowest : (i j : ℕ) → i < length ts → Reachable (TouchAt ts) i j → number_at ns i ≤ j
  -- "the answer counts components"
  pub count : Different ns n

-- of fit trapezoids (proofs/Exact.antt: `components_exact`)
abbrev pub ComponentsExact : Type 0
ComponentsExact = (L : ℕ) (ts : List Trapezoid) → All (FitFor L) ts → ComponentsOf ts (component_numbers ts) (component_count ts)
