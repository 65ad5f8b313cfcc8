-- The elements of a list, and those with a number.
use mathlib.Core.Path.{refl, sym, subst}
use mathlib.Core.Bool.{Bool}
use mathlib.Core.List.{List, [], ◌∷◌}
use mathlib.Core.Logic.{inl, inr, ◌↔◌}
use Prim.Native.Nat.{ℕ, zero, suc, ◌<◌}
use native.Mathlib.Omega.{arith}
use lib.Dec.{T}
use lib.ListN.{length}
use Rattle.lists.specs.Lists.{All, Member, At}
use Rattle.lists.specs.Tests.{test_at}
use Rattle.lists.proofs.Lists.{all_map, any_elim}

module _ {A : Type 0} where
  pub all_member : (P : A → Type 0) (x : A) (xs : List A) → All P xs → Member x xs → P x
  all_member P x xs h k = any_elim (λ y p e. subst P (sym e) p) xs h k

  -- each element is one
  pub members : (xs : List A) → All (λ (x : A). Member x xs) xs
  members [] = tt
  members (x ∷ xs) = (inl refl, all_map (λ z h. inr h) xs (members xs))

  -- ---- elements by their numbers
  pub at_range : (P : A → Type 0) (xs : List A) (i : ℕ) → At P xs i → i < length xs
  at_range P [] i h = absurd h
  at_range P (x ∷ xs) zero h = omega arith
  at_range P (x ∷ xs) (suc i) h = let k = at_range P xs i h in omega arith

  pub at_map : (P Q : A → Type 0) → ((x : A) → P x → Q x) → (xs : List A) (i : ℕ) → At P xs i → At Q xs i
  at_map P Q f [] i h = absurd h
  at_map P Q f (x ∷ xs) zero h = f x h
  at_map P Q f (x ∷ xs) (suc i) h = at_map P Q f xs i h

  pub at_with : {G : A → Type 0} (P Q : A → Type 0) → ((x : A) → G x → P x → Q x) → (xs : List A) → All G xs → (i : ℕ) → At P xs i → At Q xs i
  at_with P Q f [] g i h = absurd h
  at_with P Q f (x ∷ xs) g zero h = f x g.0 h
  at_with P Q f (x ∷ xs) g (suc i) h = at_with P Q f xs g.1 i h

  -- two elements, either first
  pub at_swap : (S : A → A → Type 0) (xs ys : List A) (i j : ℕ) → At (λ (x : A). At (S x) ys j) xs i → At (λ (y : A). At (λ (x : A). S x y) xs i) ys j
  at_swap S [] ys i j h = absurd h
  at_swap S (x ∷ xs) ys zero j h = h
  at_swap S (x ∷ xs) ys (suc i) j h = at_swap S xs ys i j h

  -- the test that says what is meant of each element says it of the element with a number
  pub test_exact : (f : A → Bool) (P : A → Type 0) (xs : List A) (i : ℕ) → All (λ (x : A). T (f x) ↔ P x) xs → T (test_at f xs i) ↔ At P xs i
  test_exact f P [] i h = ((λ k. k), (λ k. k))
  test_exact f P (x ∷ xs) zero h = h.0
  test_exact f P (x ∷ xs) (suc i) h = test_exact f P xs i h.1
