-- What holds of the first of two lists, of the second of both, and so on.
use mathlib.Core.Bool.{Bool, true, false}
use mathlib.Core.List.{List, [], ◌∷◌, ◌++◌}
use Prim.Native.Nat.{ℕ, zero, suc}
use lib.Dec.{T}
use lib.ListN.{get_or}
use Rattle.chains.specs.Chains.{added}
use Rattle.chains.specs.Statements.{Each}

module _ {A B : Type 0} (R : A → B → Type 0) where
  pub each_at : (a : A) (b : B) → R a b → (xs : List A) (ys : List B) → Each R xs ys → (n : ℕ) → R (get_or xs n a) (get_or ys n b)
  each_at a b d [] [] h n = d
  each_at a b d [] (y ∷ ys) h n = absurd h
  each_at a b d (x ∷ xs) [] h n = absurd h
  each_at a b d (x ∷ xs) (y ∷ ys) h zero = h.0
  each_at a b d (x ∷ xs) (y ∷ ys) h (suc n) = each_at a b d xs ys h.1 n

  each_more : (xs : List A) (ys : List B) (x : A) (y : B) → Each R xs ys → R x y → Each R (xs ++ (x ∷ [])) (ys ++ (y ∷ []))
  each_more [] [] x y h k = (k, tt)
  each_more [] (b ∷ ys) x y h k = absurd h
  each_more (a ∷ xs) [] x y h k = absurd h
  each_more (a ∷ xs) (b ∷ ys) x y h k = (h.0, each_more xs ys x y h.1 k)

  pub each_added : (s : Bool) (xs : List A) (ys : List B) (x : A) (y : B) → Each R xs ys → (T s → R x y) → Each R (added s xs x) (added s ys y)
  each_added true xs ys x y h f = each_more xs ys x y h (f tt)
  each_added false xs ys x y h f = h
