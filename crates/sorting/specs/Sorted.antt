-- A list with one element more, at a number; the place of a key in a rising list.
use Rattle.std.specs.Prelude.{◌≡◌, Bool, true, false, cond, List, [], ◌∷◌, ◌++◌, ℕ, ◌≤◌, length, take, drop, Result, Ok, Err}
use Rattle.lists.specs.Lists.{All}

-- x is number i, and what was there comes after it
abbrev pub inserted : {A : Type 0} → ℕ → A → List A → List A
inserted i x l = take i l ++ x ∷ drop i l

-- x put into a rising list: before the first that is greater, or joined with the one that is level with x
unfoldable pub merged : {A : Type 0} → (A → A → Bool) → (A → A → A) → A → List A → List A
merged less join x [] = x ∷ []
merged less join x (y ∷ ys) = cond (less x y) (x ∷ y ∷ ys) (cond (less y x) (y ∷ merged less join x ys) (join x y ∷ ys))

module _ {K : Type 0} (less : K → K → Bool) (x : K) where
  -- the first i are less than x
  pub record Passed (ys : List K) (i : ℕ) : Type 0 where
    pub upto : i ≤ length ys
    pub all : All (λ (y : K). (less x y ≡ false) × (less y x ≡ true)) (take i ys)

  -- x is less than the first, if there is one
  abbrev pub Front : List K → Type 0
  Front [] = Unit {0}
  Front (y ∷ ys) = less x y ≡ true

  -- there is a first, and x is level with it
  abbrev pub Same : List K → Type 0
  Same [] = ⊥
  Same (y ∷ ys) = (less x y ≡ false) × (less y x ≡ false)

  -- x belongs there: in the place of number i, with which it is level, or before number i
  abbrev pub Lands : List K → Result ℕ ℕ → Type 0
  Lands ys (Ok i) = Passed ys i × Same (drop i ys)
  Lands ys (Err i) = Passed ys i × Front (drop i ys)
