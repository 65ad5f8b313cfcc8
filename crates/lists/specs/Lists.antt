-- What holds of the elements of a list, one by one and in pairs, and lists of lists.
use Rattle.std.specs.Prelude.{◌≡◌, List, [], ◌∷◌, ◌++◌, ◌⊎◌, ℕ, zero, suc, take, drop}

-- ---- each element, some element, one element
abbrev pub All : {A : Type 0} → (A → Type 0) → List A → Type 0
All P [] = Unit {0}
All P (x ∷ xs) = P x × All P xs

abbrev pub Any : {A : Type 0} → (A → Type 0) → List A → Type 0
Any P [] = ⊥
Any P (x ∷ xs) = P x ⊎ Any P xs

-- x is an element of the list
abbrev pub Member : {A : Type 0} → A → List A → Type 0
Member {A} x xs = Any (λ (y : A). x ≡ y) xs

-- the list has an element with number i, and P holds of it
abbrev pub At : {A : Type 0} → (A → Type 0) → List A → ℕ → Type 0
At P [] i = ⊥
At P (x ∷ xs) zero = P x
At P (x ∷ xs) (suc i) = At P xs i

-- ---- each two and some two, the earlier first
abbrev pub Pairs : {A : Type 0} → (A → A → Type 0) → List A → Type 0
Pairs R [] = Unit {0}
Pairs R (x ∷ xs) = All (R x) xs × Pairs R xs

abbrev pub SomePair : {A : Type 0} → (A → A → Type 0) → List A → Type 0
SomePair R [] = ⊥
SomePair R (x ∷ xs) = Any (R x) xs ⊎ SomePair R xs

-- each two neighbours
abbrev pub Neighbours : {A : Type 0} → (A → A → Type 0) → List A → Type 0
Neighbours R [] = Unit {0}
Neighbours R (x ∷ []) = Unit {0}
Neighbours R (x ∷ y ∷ ys) = R x y × Neighbours R (y ∷ ys)

-- ---- lists of lists
-- a list cut into lists of these lengths
unfoldable pub cut : {A : Type 0} → List ℕ → List A → List (List A)
cut [] xs = []
cut (n ∷ ns) xs = take n xs ∷ cut ns (drop n xs)

-- lists one after the other
abbrev pub joined : {A : Type 0} → List (List A) → List A
joined [] = []
joined (xs ∷ xss) = xs ++ joined xss

-- for each element the list that f makes of it, one after the other
unfoldable pub each : {A B : Type 0} → (A → List B) → List A → List B
each f [] = []
each f (x ∷ xs) = f x ++ each f xs
