-- What `components` answers, in the paper's numbers, and what the list of numbers holds then.
use Rattle.std.specs.Prelude.{◌≡◌, Bool, ◌&&◌, List, ℕ, ◌≤◌, eqb, length, ℤ, Result, Ok, Err}
use Rattle.records.specs.Limits.{max_records, sized}
use Rattle.records.specs.Records.{count}
use Rattle.geometry.specs.Trapezoids.{trapezoid_codec, layer_of}
use Rattle.geometry.specs.Fitness.{SmallRefusal, first_refusal}
use Rattle.overlay.specs.Overlaps.{first_overlap}
use Rattle.connectivity.specs.Components.{component_numbers, component_count, ComponentsOf}
use Rattle.calls.specs.declared.Connected.{Connected}
use Rattle.calls.specs.declared.Connected.TheVariants as connected
use Rattle.calls.specs.Rows.{row, and_then}
use Rattle.geometry.specs.declared.Refusal.{Refusal}

-- ---- the rows
-- row 1: "layer, output or work area for pieces not a multiple of 24 words or above 12,288; work area unlike output; component list not one entry per piece"; paper 02 (vii): "Lent
-- lengths are then multiples of 25 words, at most 12,800."
unfoldable pub lists_sized : List ℤ → ℕ → Bool
lists_sized a n = sized (length a) && eqb n (count trapezoid_codec a)

-- row 1, of a list of n numbers, then rows 7 to 11 under a coordinate limit
unfoldable pub components_checked : ℕ → List ℤ → ℕ → Result (Unit {0}) Refusal
components_checked L a n = row 1 (lists_sized a n) (first_refusal L 0 (layer_of a))

-- ---- the answer
-- "A refusal answers its number and place, a success its pieces and cuts."; of components: "Each gets the lowest piece number of its component; the answer counts components."
pub data ComponentsAnswer : Type 0 where
  refused_components : (number place : ℕ) → ComponentsAnswer
  counted : (components : ℕ) → ComponentsAnswer

abbrev pub connected_answer : Connected → ComponentsAnswer
connected_answer (connected.Refused number place) = refused_components number place
connected_answer (connected.Done components) = counted components

-- the sizes of the numbers in it
abbrev pub SmallComponentsAnswer : ComponentsAnswer → Type 0
SmallComponentsAnswer (refused_components number place) = SmallRefusal number place
SmallComponentsAnswer (counted components) = components ≤ max_records

-- ---- the answer, and the list of numbers
pub record ComponentsOutcome : Type 0 where
  pub answer : ComponentsAnswer
  pub numbers : List ℕ

abbrev pub observed_components : ComponentsAnswer → List ℕ → ComponentsOutcome
observed_components answer numbers = record { answer = answer; numbers = numbers }

-- "1 to 11 change nothing.", and neither does 13
abbrev pub count_outcome : Result (Unit {0}) Refusal → ComponentsOutcome → List ℕ → ComponentsOutcome
count_outcome (Err refusal) done numbers = observed_components (refused_components refusal.number refusal.place) numbers
count_outcome (Ok u) done numbers = done

-- row 13 comes below the others
unfoldable pub components_outcome : ℕ → List ℤ → List ℕ → ComponentsOutcome
components_outcome L a numbers =
    count_outcome (and_then (components_checked L a (length numbers)) (first_overlap 0 (layer_of a))) (observed_components (counted (component_count (layer_of a))) (component_numbers (layer_of a))) numbers

-- ---- what a success means, for words of any number and content (proofs/Components.antt: `outcome_exact`)
abbrev pub OutcomeExact : Type 0
OutcomeExact = (L : ℕ) (a : List ℤ) (numbers : List ℕ) (n : ℕ) → (components_outcome L a numbers).answer ≡ counted n → ComponentsOf (layer_of a) (components_outcome L a numbers).numbers n
