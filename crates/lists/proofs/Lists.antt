-- Laws of `All`, `Any`, `Pairs` and `SomePair`.
use mathlib.Core.Path.{◌≡◌, refl}
use mathlib.Core.Bool.{Bool, true, false, not, ◌||◌, true≢false}
use mathlib.Core.List.{List, [], ◌∷◌, ◌++◌}
use mathlib.Core.Logic.{◌⊎◌, inl, inr, ◌↔◌}
use Prim.Native.Nat.{ℕ, zero, suc, ◌<◌}
use native.Mathlib.Nat.{not-suc-le-zero, le_of_suc-le-suc}
use lib.Dec.{T}
use lib.ListN.{length, get_or, take, drop}
use mir.Facts.{and_yes, yes_and}
use Rattle.lists.specs.Lists.{All, Any, Pairs, SomePair}
use Rattle.lists.specs.Tests.{all, any}
use Rattle.lists.proofs.Tests.{false_is, or_exact}

module _ {A : Type 0} (P : A → Type 0) where
  -- what holds of everything
  pub all_of : ((x : A) → P x) → (xs : List A) → All P xs
  all_of f [] = tt
  all_of f (x ∷ xs) = (f x, all_of f xs)

  pub all_append : (xs ys : List A) → All P xs → All P ys → All P (xs ++ ys)
  all_append [] ys h k = k
  all_append (x ∷ xs) ys h k = (h.0, all_append xs ys h.1 k)

  pub all_left : (xs ys : List A) → All P (xs ++ ys) → All P xs
  all_left [] ys h = tt
  all_left (x ∷ xs) ys h = (h.0, all_left xs ys h.1)

  pub all_right : (xs ys : List A) → All P (xs ++ ys) → All P ys
  all_right [] ys h = h
  all_right (x ∷ xs) ys h = all_right xs ys h.1

  pub all_take : (n : ℕ) (xs : List A) → All P xs → All P (take n xs)
  all_take zero xs h = tt
  all_take (suc n) [] h = tt
  all_take (suc n) (x ∷ xs) h = (h.0, all_take n xs h.1)

  pub all_drop : (n : ℕ) (xs : List A) → All P xs → All P (drop n xs)
  all_drop zero xs h = h
  all_drop (suc n) [] h = tt
  all_drop (suc n) (x ∷ xs) h = all_drop n xs h.1

  pub all_at : (xs : List A) (i : ℕ) (d : A) → All P xs → i < length xs → P (get_or xs i d)
  all_at [] i d h l = absurd (not-suc-le-zero l)
  all_at (x ∷ xs) zero d h l = h.0
  all_at (x ∷ xs) (suc i) d h l = all_at xs i d h.1 (le_of_suc-le-suc l)

  -- from the elements at the indices, as a slice's rule gives them
  pub any_left : (xs ys : List A) → Any P xs → Any P (xs ++ ys)
  any_left [] ys h = absurd h
  any_left (x ∷ xs) ys (inl h) = inl h
  any_left (x ∷ xs) ys (inr h) = inr (any_left xs ys h)

  pub any_right : (xs ys : List A) → Any P ys → Any P (xs ++ ys)
  any_right [] ys h = h
  any_right (x ∷ xs) ys h = inr (any_right xs ys h)

  pub any_split : (xs ys : List A) → Any P (xs ++ ys) → Any P xs ⊎ Any P ys
  any_split [] ys h = inr h
  any_split (x ∷ xs) ys (inl h) = inl (inl h)
  any_split (x ∷ xs) ys (inr h) = elim (any_split xs ys h) [ inl k ↦ inl (inr k) | inr k ↦ inr k ]

  -- where it holds of none
  pub not_any : (xs : List A) → (Any P xs → ⊥) → All (λ (x : A). P x → ⊥) xs
  not_any [] h = tt
  not_any (x ∷ xs) h = ((λ p. h (inl p)), not_any xs (λ a. h (inr a)))

module _ {A : Type 0} {P Q : A → Type 0} (f : (x : A) → P x → Q x) where
  pub all_map : (xs : List A) → All P xs → All Q xs
  all_map [] h = tt
  all_map (x ∷ xs) h = (f x h.0, all_map xs h.1)

  pub any_map : (xs : List A) → Any P xs → Any Q xs
  any_map [] h = h
  any_map (x ∷ xs) (inl h) = inl (f x h)
  any_map (x ∷ xs) (inr h) = inr (any_map xs h)

module _ {A : Type 0} {P Q R : A → Type 0} (f : (x : A) → P x → Q x → R x) where
  -- R of each element, from P and Q of each
  pub all_with : (xs : List A) → All P xs → All Q xs → All R xs
  all_with [] h k = tt
  all_with (x ∷ xs) h k = (f x h.0 k.0, all_with xs h.1 k.1)

  -- R of some element, from P of each and Q of some
  pub any_with : (xs : List A) → All P xs → Any Q xs → Any R xs
  any_with [] h k = k
  any_with (x ∷ xs) h (inl k) = inl (f x h.0 k)
  any_with (x ∷ xs) h (inr k) = inr (any_with xs h.1 k)

-- B, from P of each element and Q of some
pub any_elim : {A B : Type 0} {P Q : A → Type 0} → ((x : A) → P x → Q x → B) → (xs : List A) → All P xs → Any Q xs → B
any_elim f [] h k = absurd k
any_elim f (x ∷ xs) h (inl k) = f x h.0 k
any_elim f (x ∷ xs) h (inr k) = any_elim f xs h.1 k

pub all_both : {A : Type 0} (P Q : A → Type 0) (xs : List A) → All P xs → All Q xs → All (λ (x : A). P x × Q x) xs
all_both P Q xs h k = all_with (λ x p q. (p, q)) xs h k

-- what a test says of each element, `all` says of the list
pub all_exact : {A : Type 0} (f : A → Bool) (P : A → Type 0) → ((x : A) → T (f x) ↔ P x) → (xs : List A) → T (all f xs) ↔ All P xs
all_exact f P e [] = ((λ t. tt), (λ h. tt))
all_exact f P e (x ∷ xs) = (
  (λ t. let h = and_yes (f x) (all f xs) t in ((e x).0 h.0, (all_exact f P e xs).0 h.1)),
  (λ h. yes_and (f x) (all f xs) ((e x).1 h.0) ((all_exact f P e xs).1 h.1)),
)

-- and `any`
pub any_exact : {A : Type 0} (f : A → Bool) (xs : List A) → T (any f xs) ↔ Any (λ (x : A). T (f x)) xs
any_exact f [] = ((λ t. t), (λ h. h))
any_exact {A} f (x ∷ xs) = or_exact (f x) (any f xs) (T (f x)) (Any (λ (y : A). T (f y)) xs) ((λ t. t), (λ t. t)) (any_exact f xs)

neither : (a b : Bool) → a || b ≡ false → T (not a) × (b ≡ false)
neither true b e = absurd (true≢false e)
neither false b e = (tt, e)

pub any_none : {A : Type 0} (f : A → Bool) (xs : List A) → (any f xs ≡ false) ↔ All (λ (x : A). T (not (f x))) xs
any_none f [] = ((λ e. tt), (λ h. refl))
any_none f (x ∷ xs) = (
  (λ e. let h = neither (f x) (any f xs) e in (h.0, (any_none f xs).0 h.1)),
  (λ h. let e : f x ≡ false = false_is h.0 in rw e ((any_none f xs).1 h.1)),
)

-- ---- pairs
-- each pair within the one, within the other, and across
pub pairs_append : {A : Type 0} (R : A → A → Type 0) (xs ys : List A) → Pairs R xs → Pairs R ys → All (λ (x : A). All (R x) ys) xs → Pairs R (xs ++ ys)
pairs_append R [] ys h k a = k
pairs_append R (x ∷ xs) ys h k a = (all_append (R x) xs ys h.0 a.0, pairs_append R xs ys h.1 k a.1)

pub pairs_across : {A : Type 0} (R : A → A → Type 0) (xs ys : List A) → Pairs R (xs ++ ys) → All (λ (x : A). All (R x) ys) xs
pairs_across R [] ys h = tt
pairs_across R (x ∷ xs) ys h = (all_right (R x) xs ys h.0, pairs_across R xs ys h.1)

-- what holds of each pair, from what else holds of it and of each of the two
pub pairs_with : {A : Type 0} {G : A → Type 0} {R S : A → A → Type 0} → ((x y : A) → G x → G y → R x y → S x y) → (xs : List A) → All G xs → Pairs R xs → Pairs S xs
pairs_with f [] g h = tt
pairs_with f (x ∷ xs) g h = (all_with (λ y k r. f x y g.0 k r) xs g.1 h.0, pairs_with f xs g.1 h.1)

-- B, from R of each pair and Q of some
pub some_pair : {A B : Type 0} {R Q : A → A → Type 0} → ((a b : A) → R a b → Q a b → B) → (xs : List A) → Pairs R xs → SomePair Q xs → B
some_pair f [] h k = absurd k
some_pair f (x ∷ xs) h (inl k) = any_elim (f x) xs h.0 k
some_pair f (x ∷ xs) h (inr k) = some_pair f xs h.1 k

-- each two in either order, from each earlier and later one
module _ {A : Type 0} (P : A → Type 0) (R Q : A → A → Type 0) (same : (a : A) → Q a a) (turn : (a b : A) → Q a b → Q b a) (make : (a b : A) → P a → P b → R a b → Q a b) where
  pub all_pairs : (xs : List A) → All P xs → Pairs R xs → All (λ (a : A). All (Q a) xs) xs
  all_pairs [] h r = tt
  all_pairs (x ∷ xs) h r =
      let row : All (Q x) xs = all_with (λ b p k. make x b h.0 p k) xs h.1 r.0 in
      ((same x, row), all_with (λ a k j. (turn x a k, j)) xs row (all_pairs xs h.1 r.1))
