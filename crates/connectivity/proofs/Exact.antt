-- The statement of specs/Components.antt: the component numbers and their count say what they mean.
use mathlib.Core.Path.{sym}
use mathlib.Core.List.{List}
use mathlib.Core.Logic.{◌↔◌}
use Prim.Native.Nat.{ℕ, ◌<◌}
use native.Mathlib.Omega.{arith}
use lib.Dec.{T}
use lib.ListN.{length}
use Rattle.lists.specs.Lists.{All, At}
use Rattle.lists.specs.Tests.{test_at}
use Rattle.lists.proofs.Lists.{all_map}
use Rattle.lists.proofs.Members.{at_range, at_map, at_swap, test_exact}
use Rattle.geometry.specs.declared.Trapezoid.{Trapezoid}
use Rattle.geometry.specs.Fitness.{FitFor}
use Rattle.connectivity.specs.Touching.{Touch, touches}
use Rattle.connectivity.specs.Paths.{TouchAt}
use Rattle.connectivity.specs.Components.{number_at, touching_at, component_numbers, component_count, Different, ComponentsOf, ComponentsExact}
use Rattle.connectivity.proofs.Touches.{touches_exact, touch_turn}
use Rattle.connectivity.proofs.Joining.{Components, components}
use Rattle.connectivity.proofs.Owners.{owners_different}

module _ (ts : List Trapezoid) where
  touch_at_turn : (i j : ℕ) → TouchAt ts i j → TouchAt ts j i
  touch_at_turn i j h =
      at_map (λ (u : Trapezoid). At (λ (t : Trapezoid). Touch t u) ts i) (λ (u : Trapezoid). At (Touch u) ts i)
      (λ u k. at_map (λ (t : Trapezoid). Touch t u) (Touch u) (λ t c. touch_turn t u c) ts i k) ts j
      (at_swap Touch ts ts i j h)

  touch_at_within : (i j : ℕ) → TouchAt ts i j → (i < length ts) × (j < length ts)
  touch_at_within i j h = (
    at_range (λ (t : Trapezoid). At (Touch t) ts j) ts i h,
    at_range (λ (u : Trapezoid). At (Touch u) ts i) ts j (touch_at_turn i j h),
  )

  module _ (L : ℕ) (fit : All (FitFor L) ts) where
    touching_at_exact : (i j : ℕ) → T (touching_at ts i j) ↔ TouchAt ts i j
    unfolding touching_at
    touching_at_exact i j =
        test_exact (λ (t : Trapezoid). test_at (touches t) ts j) (λ (t : Trapezoid). At (Touch t) ts j) ts i
        (all_map (λ t h. test_exact (touches t) (Touch t) ts j (all_map (λ u k. touches_exact L t u h k) ts fit)) ts fit)

    numbers : Components (TouchAt ts) (length ts) touch_at_turn (touching_at ts) (λ i j l m t. (touching_at_exact i j).0 t) (component_numbers ts)
    unfolding component_numbers
    numbers = components (TouchAt ts) (length ts) touch_at_turn (touching_at ts) (λ i j l m t. (touching_at_exact i j).0 t) touch_at_within (λ i j l r. (touching_at_exact i j).1 r)

    different : Different (component_numbers ts) (component_count ts)
    unfolding component_count
    different =
        owners_different (component_numbers ts) (length ts) numbers.numbered.long (λ i h.
        let c = numbers.numbered.reach i h in
        let l = numbers.numbered.low i h in
        let m : number_at (component_numbers ts) i < length ts = omega arith in
        (m, sym ((numbers.exact i (number_at (component_numbers ts) i) h m).1 c)))

    all : ComponentsOf ts (component_numbers ts) (component_count ts)
    all = record { one_each = numbers.numbered.long; exact = numbers.exact; own = numbers.numbered.reach; lowest = numbers.lowest; count = different }

pub components_exact : ComponentsExact
components_exact L ts fit = all ts L fit
