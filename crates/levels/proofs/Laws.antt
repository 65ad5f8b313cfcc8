-- What `levels` yields: it rises, each element of the list is level with one of it, and each of it is the first of its level in the list.
use mathlib.Core.Path.{◌≡◌, refl, sym, ◌∙◌, subst}
use mathlib.Core.Bool.{Bool, true, false, not, cond}
use mathlib.Core.List.{List, [], ◌∷◌}
use mathlib.Core.Logic.{◌⊎◌, inl, inr}
use Prim.Native.Nat.{suc, ◌≤◌, zero-le}
use native.Mathlib.Nat.{le_refl}
use native.Mathlib.Omega.{arith}
use lib.Dec.{T}
use lib.ListN.{length}
use Rattle.lists.specs.Lists.{All, Any, Neighbours, Member}
use Rattle.lists.proofs.Lists.{all_with}
use Rattle.lists.proofs.Members.{members}
use Rattle.levels.specs.Levels.{AtMost, Level, StrictWeakOrder, insert, levels, Rising, Covers, FirstOfLevel, LevelsOf, NoneBetween}
use Rattle.levels.proofs.Order.{LessThanAll, less_not_level, greater_not_level, level_refl, level_trans, less_than_all, rising_least}

module _ {A : Type 0} (less : A → A → Bool) where
  -- x lies strictly between no two neighbours
  abbrev Outside : A → List A → Type 0
  Outside x ys = Neighbours (λ (y z : A). AtMost less x y ⊎ AtMost less z x) ys

  -- to prove something of `insert x (y ∷ ys)`: x comes before y, after it, or in its place
  pub insert_cases : (P : List A → Type 0) (x y : A) (ys : List A)
      → (T (less x y) → P (x ∷ y ∷ ys)) → (T (less y x) → P (y ∷ insert less x ys)) → (Level less x y → P (x ∷ ys)) → P (insert less x (y ∷ ys))
  unfolding insert
  insert_cases P x y ys = go (less x y) (less y x)
    where
      go : (s t : Bool) → (T s → P (x ∷ y ∷ ys)) → (T t → P (y ∷ insert less x ys)) → (T (not t) × T (not s) → P (x ∷ ys))
          → P (cond s (x ∷ y ∷ ys) (cond t (y ∷ insert less x ys) (x ∷ ys)))
      go true t before after level = before tt
      go false true before after level = after tt
      go false false before after level = level (tt, tt)

  -- ---- for any test: what holds of each element of the list holds of each of its levels
  pub insert_all : (P : A → Type 0) (x : A) (ys : List A) → P x → All P ys → All P (insert less x ys)
  unfolding insert
  insert_all P x [] p h = (p, tt)
  insert_all P x (y ∷ ys) p h = let k = insert_all P x ys p h.1 in insert_cases (All P) x y ys (λ b. (p, h)) (λ a. (h.0, k)) (λ l. (p, h.1))

  pub levels_all : (P : A → Type 0) (xs : List A) → All P xs → All P (levels less xs)
  unfolding levels
  levels_all P [] h = tt
  levels_all P (x ∷ xs) h = insert_all P x (levels less xs) h.0 (levels_all P xs h.1)

  -- each of them is in the list
  pub levels_members : (xs : List A) → All (λ (y : A). Member y xs) (levels less xs)
  levels_members xs = levels_all (λ (y : A). Member y xs) xs (members xs)

  -- and they are no more than the list has
  insert_length : (x : A) (ys : List A) → length (insert less x ys) ≤ suc (length ys)
  unfolding insert
  insert_length x [] = le_refl 1
  insert_length x (y ∷ ys) = let k = insert_length x ys in insert_cases (λ (zs : List A). length zs ≤ suc (suc (length ys))) x y ys (λ b. omega arith) (λ a. omega arith) (λ l. omega arith)

  pub levels_length : (xs : List A) → length (levels less xs) ≤ length xs
  unfolding levels
  levels_length [] = zero-le
  levels_length (x ∷ xs) = let h = insert_length x (levels less xs) in let k = levels_length xs in omega arith

  -- ---- the first of a level: what holds of each element of the list holds of it, and there is only one
  pub first_all : (P : A → Type 0) (xs : List A) (y : A) → All P xs → FirstOfLevel less xs y → P y
  first_all P [] y h f = absurd f
  first_all P (x ∷ xs) y h (inl e) = subst P (sym e) h.0
  first_all P (x ∷ xs) y h (inr f) = first_all P xs y h.1 f.1

  pub first_unique : (xs : List A) (y z : A) → FirstOfLevel less xs y → FirstOfLevel less xs z → Level less y z → y ≡ z
  first_unique [] y z f k l = absurd f
  first_unique (x ∷ xs) y z (inl e) (inl d) l = e ∙ sym d
  first_unique (x ∷ xs) y z (inl e) (inr k) l = absurd (k.0 (subst (Level less z) e (l.1, l.0)))
  first_unique (x ∷ xs) y z (inr f) (inl d) l = absurd (f.0 (subst (Level less y) d l))
  first_unique (x ∷ xs) y z (inr f) (inr k) l = first_unique xs y z f.1 k.1 l

  module _ {Good : A → Type 0} (o : StrictWeakOrder less Good) where
    -- ---- they rise
    insert_rising : (x : A) (ys : List A) → Good x → All Good ys → Rising less ys → Rising less (insert less x ys)
    unfolding insert
    insert_rising x [] gx g r = (tt, tt)
    insert_rising x (y ∷ ys) gx g r = insert_cases (Rising less) x y ys before (after (insert_rising x ys gx g.1 r.1)) level
      where
        before : T (less x y) → Rising less (x ∷ y ∷ ys)
        before h = ((h, less_than_all less o x y ys gx g.0 g.1 (o.asymmetric x y h) r.0), r)

        after : Rising less (insert less x ys) → T (less y x) → Rising less (y ∷ insert less x ys)
        after k h = (insert_all (λ (z : A). T (less y z)) x ys h r.0, k)

        level : Level less x y → Rising less (x ∷ ys)
        level l = (less_than_all less o x y ys gx g.0 g.1 l.0 r.0, r.1)

    pub levels_rising : (xs : List A) → All Good xs → Rising less (levels less xs)
    unfolding levels
    levels_rising [] g = tt
    levels_rising (x ∷ xs) g = insert_rising x (levels less xs) g.0 (levels_all Good xs g.1) (levels_rising xs g.1)

    -- ---- each element of the list is level with one of them
    insert_has : (x : A) (ys : List A) → Any (Level less x) (insert less x ys)
    unfolding insert
    insert_has x [] = inl (level_refl less o x)
    insert_has x (y ∷ ys) = let k = insert_has x ys in insert_cases (Any (Level less x)) x y ys (λ b. inl (level_refl less o x)) (λ a. inr k) (λ l. inl (level_refl less o x))

    insert_keeps : (x : A) (ys : List A) → Good x → All Good ys → (z : A) → Good z → Any (Level less z) ys → Any (Level less z) (insert less x ys)
    unfolding insert
    insert_keeps x [] gx g z gz k = absurd k
    insert_keeps x (y ∷ ys) gx g z gz k = insert_cases (Any (Level less z)) x y ys (λ b. inr k) (after k (insert_keeps x ys gx g.1 z gz)) (level k)
      where
        after : Any (Level less z) (y ∷ ys) → (Any (Level less z) ys → Any (Level less z) (insert less x ys)) → T (less y x) → Any (Level less z) (y ∷ insert less x ys)
        after (inl j) f h = inl j
        after (inr j) f h = inr (f j)

        level : Any (Level less z) (y ∷ ys) → Level less x y → Any (Level less z) (x ∷ ys)
        level (inl j) l = inl (level_trans less o z y x gz g.0 gx j (l.1, l.0))
        level (inr j) l = inr j

    pub levels_cover : (xs : List A) → All Good xs → Covers less (levels less xs) xs
    unfolding levels
    levels_cover [] g = tt
    levels_cover (x ∷ xs) g = (insert_has x (levels less xs), all_with (insert_keeps x (levels less xs) g.0 (levels_all Good xs g.1)) xs g.1 (levels_cover xs g.1))

    -- ---- each of them is the first of its level: x is in x ∷ xs, and so is what was in xs and is not level with x
    insert_firsts : (x : A) (xs ys : List A) → Good x → All Good ys → Rising less ys → All (FirstOfLevel less xs) ys → All (FirstOfLevel less (x ∷ xs)) (insert less x ys)
    unfolding insert
    insert_firsts x xs [] gx g r f = (inl refl, tt)
    insert_firsts x xs (y ∷ ys) gx g r f = insert_cases (All (FirstOfLevel less (x ∷ xs))) x y ys before (after (insert_firsts x xs ys gx g.1 r.1 f.1)) level
      where
        rest : AtMost less x y → All (FirstOfLevel less (x ∷ xs)) ys
        rest h = all_with (λ z k j. inr (greater_not_level less z x k, j)) ys (less_than_all less o x y ys gx g.0 g.1 h r.0) f.1

        before : T (less x y) → All (FirstOfLevel less (x ∷ xs)) (x ∷ y ∷ ys)
        before h = (inl refl, (inr (greater_not_level less y x h, f.0), rest (o.asymmetric x y h)))

        after : All (FirstOfLevel less (x ∷ xs)) (insert less x ys) → T (less y x) → All (FirstOfLevel less (x ∷ xs)) (y ∷ insert less x ys)
        after k h = (inr (less_not_level less y x h, f.0), k)

        level : Level less x y → All (FirstOfLevel less (x ∷ xs)) (x ∷ ys)
        level l = (inl refl, rest l.0)

    pub levels_first : (xs : List A) → All Good xs → All (FirstOfLevel less xs) (levels less xs)
    unfolding levels
    levels_first [] g = tt
    levels_first (x ∷ xs) g = insert_firsts x xs (levels less xs) g.0 (levels_all Good xs g.1) (levels_rising xs g.1) (levels_first xs g.1)

    -- ---- the three together
    pub levels_of : (xs : List A) → All Good xs → LevelsOf less xs (levels less xs)
    levels_of xs g = record { rising = levels_rising xs g; covers = levels_cover xs g; firsts = levels_first xs g }

    -- ---- what is level with one of a rising list lies strictly between no two neighbours of it
    under : (x y : A) (ys : List A) → Good x → Good y → All Good ys → LessThanAll less y ys → AtMost less x y → Outside x ys
    under x y [] gx gy g r h = tt
    under x y (z ∷ []) gx gy g r h = tt
    under x y (z ∷ w ∷ ws) gx gy g r h = (inl (o.transitive x y z gx gy g.0 h (o.asymmetric y z r.0)), under x y (w ∷ ws) gx gy g.1 r.1 h)

    outside : (x : A) (ys : List A) → Good x → All Good ys → Rising less ys → Any (Level less x) ys → Outside x ys
    outside x [] gx g r k = tt
    outside x (y ∷ []) gx g r k = tt
    outside x (y ∷ z ∷ zs) gx g r (inl l) = (inl l.0, under x y (z ∷ zs) gx g.0 g.1 r.0 l.0)
    outside x (y ∷ z ∷ zs) gx g r (inr k) = (inr (rising_least less o x z zs gx g.1.0 g.1.1 r.1 k), outside x (z ∷ zs) gx g.1 r.1 k)

pub none_between : {A : Type 0} (less : A → A → Bool) (Good : A → Type 0) → NoneBetween less Good
none_between less Good o xs g = all_with (λ x gx k. outside less o x (levels less xs) gx (levels_all less Good xs g) (levels_rising less o xs g) k) xs g (levels_cover less o xs g)
