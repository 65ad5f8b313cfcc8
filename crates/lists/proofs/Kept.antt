-- Laws of what is kept of a list.
use mathlib.Core.Path.{◌≡◌, refl}
use mathlib.Core.Bool.{Bool, true, false, cond}
use mathlib.Core.List.{List, [], ◌∷◌, ◌++◌}
use mathlib.Core.Logic.{inl, inr}
use lib.Dec.{T, T_not}
use Rattle.lists.specs.Lists.{All, Any}
use Rattle.lists.specs.Tests.{keep}
use Rattle.lists.proofs.Tests.{cond_cases}

module _ {A : Type 0} (f : A → Bool) where
  pub keep_all : {P Q : A → Type 0} → ((x : A) → P x → T (f x) → Q x) → (xs : List A) → All P xs → All Q (keep f xs)
  unfolding keep
  keep_all g [] h = tt
  keep_all {P} {Q} g (x ∷ xs) h = let k = keep_all {P = P} {Q = Q} g xs h.1 in cond_cases (All Q) (f x) (x ∷ keep f xs) (keep f xs) (λ t. (g x h.0 t, k)) (λ t. k)

  -- and back: what holds of those kept holds of each that passes
  pub keep_each : (P : A → Type 0) (xs : List A) → All P (keep f xs) → All (λ (x : A). T (f x) → P x) xs
  unfolding keep
  keep_each P [] h = tt
  keep_each P (x ∷ xs) h = go (f x) h (keep_each P xs)
    where
      go : (t : Bool) → All P (cond t (x ∷ keep f xs) (keep f xs)) → (All P (keep f xs) → All (λ (x : A). T (f x) → P x) xs) → (T t → P x) × All (λ (x : A). T (f x) → P x) xs
      go true h k = ((λ t. h.0), k h.1)
      go false h k = ((λ t. absurd t), k h)

  pub keep_any : (P : A → Type 0) (xs : List A) → Any (λ (x : A). P x × T (f x)) xs → Any P (keep f xs)
  unfolding keep
  keep_any P [] h = h
  keep_any P (x ∷ xs) (inl h) = cond_cases (Any P) (f x) (x ∷ keep f xs) (keep f xs) (λ t. inl h.0) (λ t. absurd (T_not (f x) t h.1))
  keep_any P (x ∷ xs) (inr h) = let k = keep_any P xs h in cond_cases (Any P) (f x) (x ∷ keep f xs) (keep f xs) (λ t. inr k) (λ t. k)

  pub keep_cons : (x : A) (xs : List A) → keep f (x ∷ xs) ≡ keep f (x ∷ []) ++ keep f xs
  unfolding keep
  keep_cons x xs = go (f x)
    where
      go : (t : Bool) → cond t (x ∷ keep f xs) (keep f xs) ≡ cond t (x ∷ []) [] ++ keep f xs
      go true = refl
      go false = refl
