-- What follows once the rows of `components` let a call pass or refuse it, its ways out, and what a success means.
use mathlib.Core.Path.{◌≡◌, refl, subst}
use mathlib.Core.Bool.{true}
use mathlib.Core.List.{List}
use Prim.Native.Nat.{ℕ, ◌≤◌}
use native.Mathlib.Omega.{arith}
use lib.Dec.{eqb}
use lib.ListN.{length}
use lib.IntN.{ℤ}
use borrow.Author.Tests.{eqb-true}
use Rattle.lists.specs.Lists.{All}
use Rattle.lists.proofs.Conjunction.{and_left, and_right}
use Rattle.records.specs.Limits.{max_records, sized}
use Rattle.records.specs.Records.{count}
use Rattle.records.proofs.Records.{length_from}
use Rattle.geometry.specs.Trapezoids.{trapezoid_codec, layer_of, Disjoint}
use Rattle.geometry.specs.Fitness.{FitFor, SmallRefusal, first_refusal}
use Rattle.geometry.proofs.Refusals.{SmallChecked, small_first}
use Rattle.geometry.proofs.Fitness.{layer_exact}
use Rattle.overlay.specs.Overlaps.{first_overlap}
use Rattle.overlay.proofs.Search.{first_overlap_exact}
use Rattle.connectivity.specs.Components.{component_numbers, component_count, ComponentsOf}
use Rattle.connectivity.proofs.Exact.{components_exact}
use Rattle.calls.specs.Rows.{and_then}
use Rattle.calls.specs.Components.{lists_sized, components_checked, ComponentsOutcome, refused_components, counted, observed_components, count_outcome, components_outcome, OutcomeExact}
use Rattle.calls.proofs.Rows.{sized_most}
use Rattle.calls.proofs.Checks.{row_passed, small_row}
use Rattle.calls.proofs.Overlaps.{and_passed}
use Rattle.std.specs.Prelude.{Result, Ok, Err}
use Rattle.geometry.specs.declared.Refusal.{Refusal}
use Rattle.geometry.specs.Refusals.{refused_by}

-- ---- row 1 lets the lists pass
lists_few : (a : List ℤ) (n : ℕ) → lists_sized a n ≡ true → count trapezoid_codec a ≤ max_records
unfolding lists_sized
lists_few a n e = omega (arith, sized_most (length a) (and_left (sized (length a)) (eqb n (count trapezoid_codec a)) e))

lists_one_each : (a : List ℤ) (n : ℕ) → lists_sized a n ≡ true → n ≡ count trapezoid_codec a
unfolding lists_sized
lists_one_each a n e = eqb-true n (count trapezoid_codec a) (and_right (sized (length a)) (eqb n (count trapezoid_codec a)) e)

-- ---- passed
abbrev pub computed : List ℤ → ComponentsOutcome
computed a = observed_components (counted (component_count (layer_of a))) (component_numbers (layer_of a))

module _ (L : ℕ) (a : List ℤ) (numbers : List ℕ) (e : components_checked L a (length numbers) ≡ Ok tt) where
  pub rows : (lists_sized a (length numbers) ≡ true) × (first_refusal L 0 (layer_of a) ≡ Ok tt)
  unfolding components_checked
  rows = row_passed 1 (lists_sized a (length numbers)) (first_refusal L 0 (layer_of a)) e

  pub passed_fit : All (FitFor L) (layer_of a)
  passed_fit = (layer_exact L 0 (layer_of a)).0 rows.1

  pub passed_one_each : length numbers ≡ count trapezoid_codec a
  passed_one_each = lists_one_each a (length numbers) rows.0

  pub passed_few : length numbers ≤ max_records
  passed_few = omega (arith, lists_few a (length numbers) rows.0, lists_one_each a (length numbers) rows.0)

  -- and row 13 decides
  pub passed_outcome : count_outcome (first_overlap 0 (layer_of a)) (computed a) numbers ≡ components_outcome L a numbers
  unfolding components_outcome
  passed_outcome = rw e

-- ---- row 13
module _ (a : List ℤ) (numbers : List ℕ) where
  pub searched_refused : {number place : ℕ} → first_overlap 0 (layer_of a) ≡ refused_by number place → observed_components (refused_components number place) numbers ≡ count_outcome (first_overlap 0 (layer_of a)) (computed a) numbers
  searched_refused o = rw o

  pub searched_counted : first_overlap 0 (layer_of a) ≡ Ok tt → {d : List ℕ} {n : ℕ} → d ≡ component_numbers (layer_of a) → n ≡ component_count (layer_of a)
      → observed_components (counted n) d ≡ count_outcome (first_overlap 0 (layer_of a)) (computed a) numbers
  searched_counted o {d} {n} f g = rw o (λ j. record { answer = counted (g j); numbers = f j })

-- ---- refused
small_checked : (L : ℕ) (a : List ℤ) (n : ℕ) → SmallChecked (components_checked L a n)
unfolding components_checked
small_checked L a n =
    small_row 1 (omega arith) (lists_sized a n) (first_refusal L 0 (layer_of a)) (λ e.
    small_first L 0 (layer_of a) (omega (arith, length_from trapezoid_codec (count trapezoid_codec a) a 0, lists_few a n e)))

pub refused_small : (L : ℕ) (a : List ℤ) (n : ℕ) {number place : ℕ} → components_checked L a n ≡ refused_by number place → SmallRefusal number place
refused_small L a n e = subst SmallChecked e (small_checked L a n)

pub refused_outcome : (L : ℕ) (a : List ℤ) (numbers : List ℕ) {number place : ℕ} → components_checked L a (length numbers) ≡ refused_by number place → observed_components (refused_components number place) numbers ≡ components_outcome L a numbers
unfolding components_outcome
refused_outcome L a numbers e = rw e

-- ---- what a success means
module _ (L : ℕ) (a : List ℤ) (numbers : List ℕ) (n : ℕ) where
  abbrev checked : Result (Unit {0}) Refusal
  checked = and_then (components_checked L a (length numbers)) (first_overlap 0 (layer_of a))

  passes : (c : Result (Unit {0}) Refusal) → (count_outcome c (computed a) numbers).answer ≡ counted n → c ≡ Ok tt
  passes (Ok u) g = refl
  passes (Err refusal) g = let z : ◌≡◌ {A = ℕ} 0 1 = cc in absurd (omega arith)

  module _ (e : (components_outcome L a numbers).answer ≡ counted n) where
    both : (components_checked L a (length numbers) ≡ Ok tt) × (first_overlap 0 (layer_of a) ≡ Ok tt)
    unfolding components_outcome
    both = and_passed (components_checked L a (length numbers)) (first_overlap 0 (layer_of a)) (passes checked e)

    pub components_disjoint : Disjoint (layer_of a)
    components_disjoint = (first_overlap_exact L 0 (layer_of a) (passed_fit L a numbers both.0)).passed.0 both.1

pub outcome_exact : OutcomeExact
unfolding components_outcome
outcome_exact L a numbers n e = go (checked L a numbers n) (passes L a numbers n (checked L a numbers n) e) e
  where
    go : (c : Result (Unit {0}) Refusal) → c ≡ Ok tt → (count_outcome c (computed a) numbers).answer ≡ counted n → ComponentsOf (layer_of a) (count_outcome c (computed a) numbers).numbers n
    go (Ok u) f g =
        let h : component_count (layer_of a) ≡ n = cc in
        subst (ComponentsOf (layer_of a) (component_numbers (layer_of a))) h (components_exact L (layer_of a) (passed_fit L a numbers (both L a numbers n e).0))
    go (Err refusal) f g = let z : ◌≡◌ {A = ℕ} 0 1 = cc in absurd (omega arith)
