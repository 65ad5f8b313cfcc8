-- What a place says of the list with the new element.
use mathlib.Core.Path.{◌≡◌, refl, sym, ◌∙◌, ap, subst}
use mathlib.Core.Bool.{Bool, true, false, cond}
use mathlib.Core.List.{List, [], ◌∷◌, ◌++◌, map}
use Prim.Native.Nat.{ℕ, zero, suc, ◌+◌, ◌<◌, ◌≤◌, zero-le}
use native.Mathlib.Omega.{arith}
use native.Mathlib.Numerals.{add-one}
use lib.ListN.{length, get_or, set, take, drop}
use lib.Seq.{take-suc}
use Rattle.lists.specs.Lists.{All}
use Rattle.lists.proofs.Lists.{all_append}
use Rattle.levels.specs.Levels.{insert}
use Rattle.sorting.specs.Sorted.{inserted, merged, Passed, Front, Same}

-- ---- finding it
module _ {K : Type 0} (less : K → K → Bool) (x : K) (ys : List K) where
  pub passed_start : Passed less x ys 0
  passed_start = record { upto = zero-le; all = tt }

  pub passed_next : (i : ℕ) (d : K) → Passed less x ys i → i < length ys → less x (get_or ys i d) ≡ false → less (get_or ys i d) x ≡ true → Passed less x ys (i + 1)
  passed_next i d h l p q = record { upto = omega arith; all = rw (add-one, take-suc ys i d l) (all_append (λ (y : K). (less x y ≡ false) × (less y x ≡ true)) (take i ys) (get_or ys i d ∷ []) h.all ((p, q), tt)) }

-- ---- what it says
module _ {A K : Type 0} (key : A → K) (less : K → K → Bool) (join : A → A → A) (z : A) where
  abbrev by : A → A → Bool
  by a b = less (key a) (key b)

  pub merge_before : (zs : List A) (i : ℕ) → Passed less (key z) (map key zs) i → Front less (key z) (drop i (map key zs)) → merged by join z zs ≡ inserted i z zs
  unfolding merged
  merge_before [] zero p f = refl
  merge_before [] (suc i) p f = absurd (omega (arith, p.upto))
  merge_before (y ∷ ys) zero p f = rw f
  merge_before (y ∷ ys) (suc i) p f = rw (p.all.0.0, p.all.0.1) (ap (λ (r : List A). y ∷ r) (merge_before ys i (record { upto = omega (arith, p.upto); all = p.all.1 }) f))

  pub merge_level : (zs : List A) (i : ℕ) (d : A) → Passed less (key z) (map key zs) i → Same less (key z) (drop i (map key zs)) → merged by join z zs ≡ set zs i (join z (get_or zs i d))
  unfolding merged
  merge_level [] zero d p f = absurd f
  merge_level [] (suc i) d p f = absurd (omega (arith, p.upto))
  merge_level (y ∷ ys) zero d p f = rw (f.0, f.1)
  merge_level (y ∷ ys) (suc i) d p f = rw (p.all.0.0, p.all.0.1) (ap (λ (r : List A). y ∷ r) (merge_level ys i d (record { upto = omega (arith, p.upto); all = p.all.1 }) f))

  pub same_within : (ys : List K) (x : K) (i : ℕ) → Same less x (drop i ys) → i < length ys
  same_within [] x zero f = absurd f
  same_within [] x (suc i) f = absurd f
  same_within (y ∷ ys) x zero f = omega arith
  same_within (y ∷ ys) x (suc i) f = let h = same_within ys x i f in omega arith

-- where the new one is kept, it is `insert`
pub merged_insert : {A : Type 0} (less : A → A → Bool) (x : A) (ys : List A) → merged less (λ a b. a) x ys ≡ insert less x ys
unfolding merged insert
merged_insert less x [] = refl
merged_insert less x (y ∷ ys) = rw (merged_insert less x ys)

-- ---- the same of what the elements stand for
module _ {A B : Type 0} (f : A → B) (less : A → A → Bool) (less' : B → B → Bool) (Good : A → Type 0) (agree : (a b : A) → Good a → Good b → less' (f a) (f b) ≡ less a b) where
  pub insert_map : (x : A) (ys : List A) → Good x → All Good ys → map f (insert less x ys) ≡ insert less' (f x) (map f ys)
  unfolding insert
  insert_map x [] gx g = refl
  insert_map x (y ∷ ys) gx g = rw (agree x y gx g.0, agree y x g.0 gx) (go (less x y) (less y x) (insert_map x ys gx g.1))
    where
      go : (s t : Bool) → map f (insert less x ys) ≡ insert less' (f x) (map f ys)
          → map f (cond s (x ∷ y ∷ ys) (cond t (y ∷ insert less x ys) (x ∷ ys))) ≡ cond s (f x ∷ f y ∷ map f ys) (cond t (f y ∷ insert less' (f x) (map f ys)) (f x ∷ map f ys))
      go true t e = refl
      go false true e = ap (λ (r : List B). f y ∷ r) e
      go false false e = refl
