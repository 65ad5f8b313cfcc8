-- The equality test: what the answers about the two differences say of it.
use mathlib.Core.Path.{◌≡◌, refl, sym, ◌∙◌, ap, subst}
use mathlib.Core.List.{List, [], ◌∷◌, ◌++◌, append-nil}
use Prim.Native.Nat.{ℕ, ◌+◌, ◌<◌}
use native.Mathlib.Omega.{arith}
use lib.ListN.{length}
use Rattle.geometry.specs.declared.Trapezoid.{Trapezoid}
use Rattle.boolean.specs.declared.Compared.TheVariants.{Same, Differs}
use Rattle.boolean.specs.declared.Compared.TheVariants as comparison
use Rattle.boolean.specs.Operations.{difference, OperandOf}
use Rattle.boolean.specs.Space.{Stage, enough, plus, space, difference_stages, only_if_empty, equality_stages}
use Rattle.boolean.proofs.Space.{space_enough, space_no_room}
use Rattle.boolean.specs.Folds.{folded, no_room_after}
use Rattle.counted_difference_code.specs.Code.{DifferenceCounted}
use Rattle.counted_difference_code.proofs.Counted.{none_left}
use Rattle.equality_code.specs.Code.{ComparedAs}

module _ (room : ℕ) (A B : List Trapezoid) where
  -- ---- the first minus the second
  pub compared_no_room : (c : ℕ) → DifferenceCounted room A B (no_room_after c) → ComparedAs room A B (comparison.NoRoom c)
  compared_no_room c g = space_no_room room c (difference_stages 0 A B) (only_if_empty (difference A B) (difference_stages 0 B A)) g

  first_left : (ts us : List Trapezoid) (ms ns : List Stage) (c : ℕ) → 0 < length ts → space room ms ≡ enough c → (space room (ms ++ only_if_empty ts ns) ≡ enough c) × OperandOf ts us 0
  first_left [] us ms ns c l e = absurd (omega (arith, l))
  first_left (t ∷ ts) us ms ns c l e = (ap (space room) (append-nil ms) ∙ e, refl)

  pub compared_first : (p c : ℕ) → 0 < p → DifferenceCounted room A B (folded p c) → ComparedAs room A B (Differs 0 c)
  compared_first p c l g = first_left (difference A B) (difference B A) (difference_stages 0 A B) (difference_stages 0 B A) c (omega (arith, l, g.1)) g.0

  -- ---- the second minus the first, where nothing was left of the first minus the second
  module _ (empty : difference A B ≡ []) (made : ℕ) (enough_first : space room (difference_stages 0 A B) ≡ enough made) where
    both : space room (equality_stages A B) ≡ plus made (space room (difference_stages 0 B A))
    both =
        ap (λ (ts : List Trapezoid). space room (difference_stages 0 A B ++ only_if_empty ts (difference_stages 0 B A))) empty
        ∙ space_enough room made (difference_stages 0 A B) (difference_stages 0 B A) enough_first

    second_left : (us : List Trapezoid) → 0 < length us → OperandOf (difference A B) us 1
    second_left us l = subst (λ (ts : List Trapezoid). OperandOf ts us 1) (sym empty) (l, refl)

    pub both_no_room : (c : ℕ) → DifferenceCounted room B A (no_room_after c) → ComparedAs room A B (comparison.NoRoom (made + c))
    both_no_room c g = both ∙ ap (plus made) g

    pub both_same : (p c : ℕ) → p ≡ 0 → DifferenceCounted room B A (folded p c) → ComparedAs room A B (Same (made + c))
    both_same p c e g = (both ∙ ap (plus made) g.0, empty, none_left (difference B A) (sym g.1 ∙ e))

    pub both_second : (p c : ℕ) → 0 < p → DifferenceCounted room B A (folded p c) → ComparedAs room A B (Differs 1 (made + c))
    both_second p c l g = (both ∙ ap (plus made) g.0, second_left (difference B A) (omega (arith, l, g.1)))
