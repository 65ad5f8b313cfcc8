-- Laws of counts and of sums over a list.
use mathlib.Core.Path.{◌≡◌, refl, sym, ◌∙◌, ap, ap₂}
use mathlib.Core.Bool.{Bool, true, false, cond}
use mathlib.Core.List.{List, [], ◌∷◌, ◌++◌}
use mathlib.Core.Logic.{inl, inr}
use Prim.Native.Nat.{ℕ, ◌+◌, ◌<◌, ◌≤◌}
use native.Mathlib.Nat.{zero-add, add_assoc}
use native.Mathlib.Omega.{arith}
use lib.Dec.{T}
use Rattle.lists.specs.Lists.{All}
use Rattle.lists.specs.Tests.{bit, keep, count_if, total}
use Rattle.lists.proofs.Tests.{true_is, false_is, yes_or_no}
use Rattle.lists.proofs.Lists.{all_map}

-- ---- counts
pub bit_most : (b : Bool) → bit b ≤ 1
bit_most true = omega arith
bit_most false = omega arith

module _ {A : Type 0} (f : A → Bool) where
  pub count_append : (xs ys : List A) → count_if f (xs ++ ys) ≡ count_if f xs + count_if f ys
  unfolding count_if
  count_append [] ys = sym (zero-add (count_if f ys))
  count_append (x ∷ xs) ys = ap (λ (n : ℕ). bit (f x) + n) (count_append xs ys) ∙ sym (add_assoc (bit (f x)) (count_if f xs) (count_if f ys))

  pub count_none : (xs : List A) → All (λ (x : A). f x ≡ false) xs → count_if f xs ≡ 0
  unfolding count_if
  count_none [] h = refl
  count_none (x ∷ xs) h = ap₂ (λ (t : Bool) (n : ℕ). bit t + n) h.0 (count_none xs h.1)

  -- each that passes is counted
  pub count_some : (xs : List A) → All (λ (x : A). T (f x) → 0 < count_if f xs) xs
  unfolding count_if
  count_some [] = tt
  count_some (x ∷ xs) = ((λ t. let e : f x ≡ true = true_is t in let b = ap bit e in omega arith), all_map (λ y h t. let k = h t in omega arith) xs (count_some xs))

-- ---- sums
module _ {A : Type 0} (f : A → ℕ) where
  pub total_append : (xs ys : List A) → total f (xs ++ ys) ≡ total f xs + total f ys
  total_append [] ys = omega arith
  total_append (x ∷ xs) ys = let h = total_append xs ys in omega arith

  -- over those kept: the others add nothing
  pub keep_total : (g : A → Bool) (xs : List A) → total f (keep g xs) ≡ total (λ (x : A). cond (g x) (f x) 0) xs
  unfolding keep
  keep_total g [] = refl
  keep_total g (x ∷ xs) =
      let k = keep_total g xs in
      elim (yes_or_no (g x)) [
        | inl t ↦ (let e : g x ≡ true = true_is t in rw (e, k))
        | inr t ↦ (let e : g x ≡ false = false_is t in rw e (k ∙ sym (zero-add (total (λ (x : A). cond (g x) (f x) 0) xs))))
      ]
