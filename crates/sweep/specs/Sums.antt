-- The sum of the weights of those of a list that pass a test.
use Rattle.std.specs.Prelude.{Bool, cond, List, [], ◌∷◌, ℤ, pos}
use Rattle.integer.specs.Integer.{◌⊕◌}

module _ {A : Type 0} where
  unfoldable pub sum : (A → ℤ) → (A → Bool) → List A → ℤ
  sum weight f [] = pos 0
  sum weight f (x ∷ xs) = cond (f x) (weight x) (pos 0) ⊕ sum weight f xs
