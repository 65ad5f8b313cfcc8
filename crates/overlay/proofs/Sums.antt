-- Sums of costs over the levels of a list and over the columns of a sweep.
use mathlib.Core.Path.{◌≡◌}
use mathlib.Core.Bool.{Bool}
use mathlib.Core.List.{List, [], ◌∷◌}
use mathlib.Core.Logic.{◌⊎◌, inl, inr}
use Prim.Native.Nat.{ℕ, ◌+◌, ◌≤◌, zero-le}
use native.Mathlib.Nat.{le_refl}
use native.Mathlib.Omega.{arith}
use lib.Dec.{T, T_not}
use lib.ListN.{length, length-append}
use Rattle.lists.specs.Lists.{All, Any, Neighbours}
use Rattle.lists.specs.Tests.{total}
use Rattle.lists.proofs.Lists.{any_elim, all_both}
use Rattle.integer.specs.Fraction.{Fraction}
use Rattle.levels.specs.Levels.{Level, StrictWeakOrder, insert, levels, Rising}
use Rattle.levels.proofs.Order.{less_at_most}
use Rattle.levels.proofs.Laws.{insert_cases, levels_all, levels_rising}
use Rattle.sweep.specs.Segments.{Segment, spanning}
use Rattle.sweep.specs.Sweep.{columns}

module _ {A : Type 0} (c : A → ℕ) where
  module _ (less : A → A → Bool) where
    insert_total : (x : A) (ys : List A) → total c (insert less x ys) ≤ c x + total c ys
    unfolding insert
    insert_total x [] = le_refl (c x + 0)
    insert_total x (y ∷ ys) =
        let h = insert_total x ys in
        insert_cases less (λ (zs : List A). total c zs ≤ c x + (c y + total c ys)) x y ys (λ b. le_refl (c x + (c y + total c ys))) (λ a. omega arith) (λ l. omega arith)

    pub levels_step : (x : A) (xs : List A) → total c (levels less (x ∷ xs)) ≤ c x + total c (levels less xs)
    unfolding levels
    levels_step x xs = insert_total x (levels less xs)

    pub levels_total : (xs : List A) → total c (levels less xs) ≤ total c xs
    unfolding levels
    levels_total [] = le_refl 0
    levels_total (x ∷ xs) = let h = insert_total x (levels less xs) in let k = levels_total xs in omega arith

    -- where level elements cost the same, an element that is level with another costs nothing
    module _ {Good : A → Type 0} (o : StrictWeakOrder less Good) (same : (x y : A) → Good x → Good y → Level less x y → c x ≡ c y) where
      insert_same : (x : A) (ys : List A) → Good x → All Good ys → Rising less ys → Any (Level less x) ys → total c (insert less x ys) ≤ total c ys
      unfolding insert
      insert_same x [] gx g r a = absurd a
      insert_same x (y ∷ ys) gx g r a =
          insert_cases less (λ (zs : List A). total c zs ≤ c y + total c ys) x y ys
          (first a)
          (later a (insert_same x ys gx g.1 r.1))
          (λ l. let k = same x y gx g.0 l in omega arith)
        where
          -- x is not level with one that is greater than y
          greater : T (less x y) → (z : A) → Good z × T (less y z) → Level less x z → ⊥
          greater h z j l = T_not (less y x) (o.asymmetric x y h) (less_at_most less o y z x g.0 j.0 gx j.1 l.1)

          first : Level less x y ⊎ Any (Level less x) ys → T (less x y) → total c (x ∷ y ∷ ys) ≤ c y + total c ys
          first (inl l) h = absurd (T_not (less x y) l.1 h)
          first (inr k) h = absurd (any_elim (greater h) ys (all_both Good (λ (z : A). T (less y z)) ys g.1 r.0) k)

          later : Level less x y ⊎ Any (Level less x) ys → (Any (Level less x) ys → total c (insert less x ys) ≤ total c ys) → T (less y x) → total c (y ∷ insert less x ys) ≤ c y + total c ys
          later (inl l) k h = absurd (T_not (less y x) l.0 h)
          later (inr j) k h = let i = k j in omega arith

      pub levels_same : (x : A) (xs : List A) → Good x → All Good xs → Any (Level less x) (levels less xs) → total c (levels less (x ∷ xs)) ≤ total c (levels less xs)
      unfolding levels
      levels_same x xs gx g a = insert_same x (levels less xs) gx (levels_all less Good xs g) (levels_rising less o xs g) a

-- what a sweep yields is at most the sum of what its columns may yield
module _ {A K X : Type 0} (segment : A → Segment) (position : K → Fraction) (yields : K → K → List A → List X) (c : K → ℕ) (es : List A) where
  pub columns_length : (ss : List K) → Neighbours (λ (p q : K). length (yields p q (spanning segment (position p) es)) ≤ c p) ss → length (columns segment position yields es ss) ≤ total c ss
  unfolding columns
  columns_length [] n = zero-le
  columns_length (p ∷ []) n = zero-le
  columns_length (p ∷ q ∷ qs) n =
      let h = columns_length (q ∷ qs) n.1 in
      let k = n.0 in
      omega (arith, length-append (yields p q (spanning segment (position p) es)) (columns segment position yields es (q ∷ qs)))
