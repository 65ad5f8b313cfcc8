-- Tests of the elements of a list: whether all or any pass, those that do, how many they are; and sums over a list.
use Rattle.std.specs.Prelude.{Bool, true, false, cond, ◌&&◌, ◌||◌, List, [], ◌∷◌, ℕ, zero, suc, ◌+◌}

-- the test that every element passes
abbrev pub always : {A : Type 0} → A → Bool
always x = true

abbrev pub all : {A : Type 0} → (A → Bool) → List A → Bool
all f [] = true
all f (x ∷ xs) = f x && all f xs

abbrev pub any : {A : Type 0} → (A → Bool) → List A → Bool
any f [] = false
any f (x ∷ xs) = f x || any f xs

-- the list has an element with number i, and the test says yes of it
abbrev pub test_at : {A : Type 0} → (A → Bool) → List A → ℕ → Bool
test_at f [] i = false
test_at f (x ∷ xs) zero = f x
test_at f (x ∷ xs) (suc i) = test_at f xs i

abbrev pub bit : Bool → ℕ
bit true = 1
bit false = 0

module _ {A : Type 0} where
  unfoldable pub keep : (A → Bool) → List A → List A
  keep f [] = []
  keep f (x ∷ xs) = cond (f x) (x ∷ keep f xs) (keep f xs)

  unfoldable pub count_if : (A → Bool) → List A → ℕ
  count_if f [] = 0
  count_if f (x ∷ xs) = bit (f x) + count_if f xs

-- over a list: f x₀ + f x₁ + ..
abbrev pub total : {A : Type 0} → (A → ℕ) → List A → ℕ
total f [] = 0
total f (x ∷ xs) = f x + total f xs
