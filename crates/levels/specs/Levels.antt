-- A list put in order with one element for each level.
use Rattle.std.specs.Prelude.{◌≡◌, Bool, true, not, cond, List, [], ◌∷◌, ◌⊎◌, ◌↔◌, T}
use Rattle.lists.specs.Lists.{All, Any, Pairs, Neighbours}

-- The order is given as a test.
module _ {A : Type 0} (less : A → A → Bool) where
  -- x is less than y or level with it
  abbrev pub AtMost : A → A → Type 0
  AtMost x y = T (not (less y x))

  -- neither is less than the other
  abbrev pub Level : A → A → Type 0
  Level x y = AtMost x y × AtMost y x

  -- the test is a strict weak order on the elements that are Good
  pub record StrictWeakOrder (Good : A → Type 0) : Type 0 where
    pub asymmetric : (x y : A) → T (less x y) → AtMost x y
    pub transitive : (x y z : A) → Good x → Good y → Good z → AtMost x y → AtMost y z → AtMost x z

  -- ---- levels
  -- x put into a rising list: before the first that is greater, or in the place of the one that is level with x
  unfoldable pub insert : A → List A → List A
  insert x [] = x ∷ []
  insert x (y ∷ ys) = cond (less x y) (x ∷ y ∷ ys) (cond (less y x) (y ∷ insert x ys) (x ∷ ys))

  -- from the least to the greatest; of those that are level only the first in the list's own order
  unfoldable pub levels : List A → List A
  levels [] = []
  levels (x ∷ xs) = insert x (levels xs)

  -- ---- what it means
  -- each element is less than all that follow
  abbrev pub Rising : List A → Type 0
  Rising ys = Pairs (λ (x y : A). T (less x y)) ys

  -- each element of xs is level with one of ys
  abbrev pub Covers : List A → List A → Type 0
  Covers ys xs = All (λ (x : A). Any (Level x) ys) xs

  -- y is in the list, and is the first there among those that are level with it
  abbrev pub FirstOfLevel : List A → A → Type 0
  FirstOfLevel [] y = ⊥
  FirstOfLevel (x ∷ xs) y = (y ≡ x) ⊎ (¬ Level y x × FirstOfLevel xs y)

  -- ys has the first of each level of xs, in order
  pub record LevelsOf (xs ys : List A) : Type 0 where
    pub rising : Rising ys
    pub covers : Covers ys xs
    pub firsts : All (FirstOfLevel xs) ys

  -- ---- the statements
  module _ (Good : A → Type 0) where
    -- a list is `levels xs` exactly if it has the first of each level of xs, in order (proofs/Unique.antt: `levels_exact`)
    abbrev pub LevelsExact : Type 0
    LevelsExact = StrictWeakOrder Good → (xs ys : List A) → All Good xs → (levels xs ≡ ys) ↔ LevelsOf xs ys

    -- no element of xs lies strictly between two neighbours in `levels xs` (proofs/Laws.antt: `none_between`)
    abbrev pub NoneBetween : Type 0
    NoneBetween = StrictWeakOrder Good → (xs : List A) → All Good xs → All (λ (x : A). Neighbours (λ (y z : A). AtMost x y ⊎ AtMost z x) (levels xs)) xs
