-- Laws of `each` and `keep`, and of sums over a list.
use mathlib.Core.Path.{◌≡◌, refl, sym, ◌∙◌, ap, ap₂, subst}
use mathlib.Core.Bool.{Bool, true, false, cond}
use mathlib.Core.List.{List, [], ◌∷◌, ◌++◌, append_assoc}
use mathlib.Core.Logic.{◌⊎◌, inl, inr, ◌↔◌}
use Prim.Native.Nat.{ℕ, zero, suc, ◌+◌, ◌≤◌}
use native.Mathlib.Omega.{arith}
use lib.Dec.{T}
use lib.ListN.{length, length-append}
use Rattle.lists.specs.Lists.{All, Any, Member, Pairs, each}
use Rattle.lists.specs.Tests.{keep, total}
use Rattle.lists.proofs.Tests.{cond_cases}
use Rattle.lists.proofs.Lists.{all_of, all_append, all_map, all_with, any_left, any_right, any_split, any_map, pairs_append}
use Rattle.lists.proofs.Members.{all_member, members}
use Rattle.lists.proofs.Kept.{keep_all, keep_any}
use Rattle.lists.proofs.Counts.{total_append}

-- ---- elements
module _ {A : Type 0} (P : A → Type 0) where
  -- an element of which it holds, and back
  pub any_from : (xs : List A) → Any P xs → (x : A) × Member x xs × P x
  any_from [] h = absurd h
  any_from (x ∷ xs) (inl h) = (x, inl refl, h)
  any_from (x ∷ xs) (inr h) = let r = any_from xs h in (r.0, inr r.1, r.2)

  pub member_any : (x : A) (xs : List A) → Member x xs → P x → Any P xs
  member_any x xs m p = any_map (λ y e. subst P e p) xs m

-- what holds of each two elements, one of each list
pub all-across : {A B : Type 0} {P : A → Type 0} {Q : B → Type 0} (S : A → B → Type 0) → ((x : A) (y : B) → P x → Q y → S x y) → (xs : List A) (ys : List B) → All P xs → All Q ys → All (λ (x : A). All (S x) ys) xs
all-across S f xs ys h k = all_map (λ x p. all_map (λ y q. f x y p q) ys k) xs h

pub pairs_map : {A : Type 0} {R S : A → A → Type 0} → ((x y : A) → R x y → S x y) → (xs : List A) → Pairs R xs → Pairs S xs
pairs_map f [] h = tt
pairs_map f (x ∷ xs) h = (all_map (f x) xs h.0, pairs_map f xs h.1)

-- ---- each
module _ {A B : Type 0} (f : A → List B) where
  pub each_any : (P : B → Type 0) (xs : List A) → Any P (each f xs) ↔ Any (λ (x : A). Any P (f x)) xs
  unfolding each
  each_any P [] = ((λ h. h), (λ h. h))
  each_any P (x ∷ xs) = (
    (λ h. elim (any_split P (f x) (each f xs) h) [ inl k ↦ inl k | inr k ↦ inr ((each_any P xs).0 k) ]),
    (λ h. elim h [ inl k ↦ any_left P (f x) (each f xs) k | inr k ↦ any_right P (f x) (each f xs) ((each_any P xs).1 k) ]),
  )

  pub each_all : (P : B → Type 0) → ((x : A) → All P (f x)) → (xs : List A) → All P (each f xs)
  unfolding each
  each_all P h [] = tt
  each_all P h (x ∷ xs) = all_append P (f x) (each f xs) (h x) (each_all P h xs)

  pub each_append : (xs ys : List A) → each f (xs ++ ys) ≡ each f xs ++ each f ys
  unfolding each
  each_append [] ys = refl
  each_append (x ∷ xs) ys = ap (λ (zs : List B). f x ++ zs) (each_append xs ys) ∙ sym (append_assoc (f x) (each f xs) (each f ys))

  pub each_none : (xs : List A) → ((x : A) → f x ≡ []) → each f xs ≡ []
  unfolding each
  each_none [] h = refl
  each_none (x ∷ xs) h = ap₂ (λ (ys zs : List B). ys ++ zs) (h x) (each_none xs h)

  -- each pair, from those of one element's list, and those of two elements' lists
  module _ (R : A → A → Type 0) (S : B → B → Type 0) (own : (x : A) → Pairs S (f x)) (across : (x y : A) → R x y → All (λ (s : B). All (S s) (f y)) (f x)) where
    each_across : (x : A) (xs : List A) → All (R x) xs → All (λ (s : B). All (S s) (each f xs)) (f x)
    unfolding each
    each_across x [] h = all_of (λ (s : B). All (S s) []) (λ s. tt) (f x)
    each_across x (y ∷ ys) h = all_with (λ s a b. all_append (S s) (f y) (each f ys) a b) (f x) (across x y h.0) (each_across x ys h.1)

    pub each_pairs : (xs : List A) → Pairs R xs → Pairs S (each f xs)
    unfolding each
    each_pairs [] h = tt
    each_pairs (x ∷ xs) h = pairs_append S (f x) (each f xs) (own x) (each_pairs xs h.1) (each_across x xs h.0)

  pub each_few : (w : A → ℕ) → ((x : A) → length (f x) ≤ w x) → (xs : List A) → length (each f xs) ≤ total w xs
  unfolding each
  each_few w h [] = omega arith
  each_few w h (x ∷ xs) = let k = each_few w h xs in omega (arith, h x, length-append (f x) (each f xs))

-- ---- keep
module _ {A : Type 0} (f : A → Bool) where
  pub keep_append : (xs ys : List A) → keep f (xs ++ ys) ≡ keep f xs ++ keep f ys
  unfolding keep
  keep_append [] ys = refl
  keep_append (x ∷ xs) ys = go (f x) (keep_append xs ys)
    where
      go : (t : Bool) → keep f (xs ++ ys) ≡ keep f xs ++ keep f ys → cond t (x ∷ keep f (xs ++ ys)) (keep f (xs ++ ys)) ≡ cond t (x ∷ keep f xs) (keep f xs) ++ keep f ys
      go true e = ap (λ (zs : List A). x ∷ zs) e
      go false e = e

  pub keep_member : (x : A) (xs : List A) → Member x (keep f xs) ↔ (Member x xs × T (f x))
  keep_member x xs = (
    (λ m. all_member (λ (y : A). Member y xs × T (f y)) x (keep f xs) (keep_all f {P = λ (y : A). Member y xs} {Q = λ (y : A). Member y xs × T (f y)} (λ y k t. (k, t)) xs (members xs)) m),
    (λ h. keep_any f (λ (y : A). x ≡ y) xs (any_map (λ y e. (e, subst (λ (z : A). T (f z)) e h.1)) xs h.0)),
  )

  pub keep_pairs : (R : A → A → Type 0) (xs : List A) → Pairs R xs → Pairs R (keep f xs)
  unfolding keep
  keep_pairs R [] h = tt
  keep_pairs R (x ∷ xs) h =
      let k = keep_pairs R xs h.1 in
      cond_cases (Pairs R) (f x) (x ∷ keep f xs) (keep f xs) (λ t. (keep_all f {P = R x} {Q = R x} (λ y r u. r) xs h.0, k)) (λ t. k)

-- ---- each of those kept, and two functions that agree
module _ {A B : Type 0} where
  pub each_same : (f g : A → List B) (xs : List A) → All (λ (x : A). f x ≡ g x) xs → each f xs ≡ each g xs
  unfolding each
  each_same f g [] h = refl
  each_same f g (x ∷ xs) h = rw (h.0, each_same f g xs h.1)

  -- the others give nothing
  pub each_keep : (p : A → Bool) (f : A → List B) (xs : List A) → each f (keep p xs) ≡ each (λ (x : A). cond (p x) (f x) []) xs
  unfolding each keep
  each_keep p f [] = refl
  each_keep p f (x ∷ xs) = go (p x) ∙ ap (λ (t : List B). cond (p x) (f x) [] ++ t) (each_keep p f xs)
    where
      go : (b : Bool) → each f (cond b (x ∷ keep p xs) (keep p xs)) ≡ cond b (f x) [] ++ each f (keep p xs)
      go true = refl
      go false = refl

  pub each_cond : (b : Bool) (f : A → List B) (xs : List A) → cond b (each f xs) [] ≡ each (λ (x : A). cond b (f x) []) xs
  each_cond true f xs = refl
  each_cond false f xs = sym (each_none (λ (x : A). []) xs (λ x. refl))

-- ---- sums
module _ {A : Type 0} where
  pub total_most : (f g : A → ℕ) (xs : List A) → All (λ (x : A). f x ≤ g x) xs → total f xs ≤ total g xs
  total_most f g [] h = omega arith
  total_most f g (x ∷ xs) h = let k = total_most f g xs h.1 in omega (arith, h.0)

  pub total_none : (f : A → ℕ) (xs : List A) → All (λ (x : A). f x ≡ 0) xs → total f xs ≡ 0
  total_none f [] h = refl
  total_none f (x ∷ xs) h = let k = total_none f xs h.1 in omega (arith, h.0)

  total_sum : (f g : A → ℕ) (xs : List A) → total (λ (x : A). f x + g x) xs ≡ total f xs + total g xs
  total_sum f g [] = refl
  total_sum f g (x ∷ xs) = let k = total_sum f g xs in omega arith

  pub total_ones : (xs : List A) → total (λ (x : A). 1) xs ≡ length xs
  total_ones [] = refl
  total_ones (x ∷ xs) = let k = total_ones xs in omega arith

  -- where no two add anything, the sum is one of them
  pub total_once : (f : A → ℕ) (m : ℕ) (xs : List A) → All (λ (x : A). f x ≤ m) xs → Pairs (λ (x y : A). (f x ≡ 0) ⊎ (f y ≡ 0)) xs → total f xs ≤ m
  total_once f m [] h k = omega arith
  total_once f m (x ∷ xs) h k = go (f x) refl (total_once f m xs h.1 k.1)
    where
      go : (n : ℕ) → f x ≡ n → total f xs ≤ m → f x + total f xs ≤ m
      go zero e t = omega arith
      go (suc n) e t =
          let z = total_none f xs (all_map (λ y c. elim c [ inl d ↦ absurd (omega (arith, d, e)) | inr d ↦ d ]) xs k.0) in
          omega (arith, h.0)

-- a sum of sums, either first
pub total_swap : {A B : Type 0} (h : A → B → ℕ) (xs : List A) (ys : List B) → total (λ (x : A). total (h x) ys) xs ≡ total (λ (y : B). total (λ (x : A). h x y) xs) ys
total_swap {A} {B} h [] ys = sym (total_none (λ (y : B). 0) ys (all_of (λ (y : B). 0 ≡ 0) (λ y. refl) ys))
total_swap {A} {B} h (x ∷ xs) ys = ap (λ (n : ℕ). total (h x) ys + n) (total_swap h xs ys) ∙ sym (total_sum (h x) (λ (y : B). total (λ (x : A). h x y) xs) ys)

pub total-each : {A B : Type 0} (g : B → ℕ) (f : A → List B) (xs : List A) → total g (each f xs) ≡ total (λ (x : A). total g (f x)) xs
unfolding each
total-each g f [] = refl
total-each g f (x ∷ xs) = total_append g (f x) (each f xs) ∙ ap (λ (n : ℕ). total g (f x) + n) (total-each g f xs)

pub total_keep : {A : Type 0} (f : A → ℕ) (g : A → Bool) (xs : List A) → total f (keep g xs) ≤ total f xs
unfolding keep
total_keep f g [] = omega arith
total_keep {A} f g (x ∷ xs) =
    let h = total_keep f g xs in
    cond_cases (λ (ys : List A). total f ys ≤ f x + total f xs) (g x) (x ∷ keep g xs) (keep g xs) (λ t. omega (arith, h)) (λ t. omega (arith, h))
