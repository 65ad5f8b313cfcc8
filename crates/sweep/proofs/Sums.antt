-- Laws of sums.
use mathlib.Core.Path.{◌≡◌, refl, sym, ◌∙◌, ap, ap₂}
use mathlib.Core.Bool.{Bool, true, false, cond, ◌&&◌}
use mathlib.Core.List.{List, [], ◌∷◌, ◌++◌}
use mathlib.Core.Logic.{inl, inr}
use lib.IntN.{ℤ, pos}
use Rattle.lists.specs.Lists.{All}
use Rattle.lists.specs.Tests.{keep}
use Rattle.lists.proofs.Tests.{true_is, false_is, yes_or_no}
use Rattle.integer.specs.Integer.{◌⊕◌}
use Rattle.integer.proofs.Laws as Laws
use Rattle.sweep.specs.Sums.{sum}

module _ {A : Type 0} (f : A → Bool) where
  pub sum_same : (weight : A → ℤ) (g : A → Bool) (xs : List A) → All (λ (x : A). f x ≡ g x) xs → sum weight f xs ≡ sum weight g xs
  unfolding sum
  sum_same weight g [] h = refl
  sum_same weight g (x ∷ xs) h = ap₂ (λ (t : Bool) (z : ℤ). cond t (weight x) (pos 0) ⊕ z) h.0 (sum_same weight g xs h.1)

  pub sum_none : (weight : A → ℤ) (xs : List A) → All (λ (x : A). f x ≡ false) xs → sum weight f xs ≡ pos 0
  unfolding sum
  sum_none weight [] h = refl
  sum_none weight (x ∷ xs) h = ap₂ (λ (t : Bool) (z : ℤ). cond t (weight x) (pos 0) ⊕ z) h.0 (sum_none weight xs h.1) ∙ Laws.zero_add (pos 0)

  pub sum_append : (weight : A → ℤ) (xs ys : List A) → sum weight f (xs ++ ys) ≡ sum weight f xs ⊕ sum weight f ys
  unfolding sum
  sum_append weight [] ys = sym (Laws.zero_add (sum weight f ys))
  sum_append weight (x ∷ xs) ys =
      ap (λ (z : ℤ). cond (f x) (weight x) (pos 0) ⊕ z) (sum_append weight xs ys) ∙ sym (Laws.add_assoc (cond (f x) (weight x) (pos 0)) (sum weight f xs) (sum weight f ys))

  -- of those kept by another test
  pub sum_keep : (weight : A → ℤ) (g : A → Bool) (xs : List A) → sum weight g (keep f xs) ≡ sum weight (λ (x : A). f x && g x) xs
  unfolding sum keep
  sum_keep weight g [] = refl
  sum_keep weight g (x ∷ xs) =
      let k = sum_keep weight g xs in
      elim (yes_or_no (f x)) [
        | inl t ↦ (let e : f x ≡ true = true_is t in rw (e, k))
        | inr t ↦ (let e : f x ≡ false = false_is t in rw e (k ∙ sym (Laws.zero_add (sum weight (λ (x : A). f x && g x) xs))))
      ]
