-- A list that has the first of each level, in order, is `levels`: code may find it in any way.
use mathlib.Core.Path.{◌≡◌, refl, ap₂, subst}
use mathlib.Core.Bool.{Bool}
use mathlib.Core.List.{List, [], ◌∷◌}
use mathlib.Core.Logic.{inl, inr}
use lib.Dec.{T, T_not}
use Rattle.lists.specs.Lists.{All, Any}
use Rattle.lists.proofs.Lists.{all_map, all_with}
use Rattle.levels.specs.Levels.{AtMost, Level, StrictWeakOrder, levels, Rising, Covers, FirstOfLevel, LevelsOf, LevelsExact}
use Rattle.levels.proofs.Order.{LessThanAll, less_than_all, rising_least}
use Rattle.levels.proofs.Laws.{first_all, first_unique, levels_of}

module _ {A : Type 0} (less : A → A → Bool) {Good : A → Type 0} (o : StrictWeakOrder less Good) where
  -- what is greater than z and level with one of z ∷ zs is level with one of zs
  level_later : (y z : A) (zs : List A) → T (less z y) → Any (Level less y) (z ∷ zs) → Any (Level less y) zs
  level_later y z zs h (inl l) = absurd (T_not (less z y) l.0 h)
  level_later y z zs h (inr k) = k

  cover_later : (y z : A) (ys zs : List A) → Good y → Good z → All Good ys → AtMost less z y → LessThanAll less y ys → Covers less (z ∷ zs) ys → Covers less zs ys
  cover_later y z ys zs gy gz g h r k = all_with (λ w j. level_later w z zs j) ys (less_than_all less o z y ys gz gy g h r) k

  module _ (xs : List A) (g : All Good xs) where
    -- what holds of each element of xs holds of the firsts
    of_firsts : (P : A → Type 0) → All P xs → (ys : List A) → All (FirstOfLevel less xs) ys → All P ys
    of_firsts P h ys f = all_map (λ y k. first_all less P xs y h k) ys f

    -- rising lists of firsts, each level with the other, are the same: their least are level, and so on
    rising_unique : (ys zs : List A) → All (FirstOfLevel less xs) ys → All (FirstOfLevel less xs) zs → Rising less ys → Rising less zs → Covers less zs ys → Covers less ys zs → ys ≡ zs
    rising_unique [] [] f k r s c d = refl
    rising_unique [] (z ∷ zs) f k r s c d = absurd d.0
    rising_unique (y ∷ ys) [] f k r s c d = absurd c.0
    rising_unique (y ∷ ys) (z ∷ zs) f k r s c d = ap₂ ◌∷◌ (first_unique less xs y z f.0 k.0 level) (rising_unique ys zs f.1 k.1 r.1 s.1 tail_covered tail_covers)
      where
        gy : All Good (y ∷ ys)
        gy = of_firsts Good g (y ∷ ys) f

        gz : All Good (z ∷ zs)
        gz = of_firsts Good g (z ∷ zs) k

        level : Level less y z
        level = (rising_least less o z y ys gz.0 gy.0 gy.1 r d.0, rising_least less o y z zs gy.0 gz.0 gz.1 s c.0)

        tail_covered : Covers less zs ys
        tail_covered = cover_later y z ys zs gy.0 gz.0 gy.1 level.1 r.0 c.1

        tail_covers : Covers less ys zs
        tail_covers = cover_later z y zs ys gz.0 gy.0 gz.1 level.0 s.0 d.1

    pub levels_unique : (ys zs : List A) → LevelsOf less xs ys → LevelsOf less xs zs → ys ≡ zs
    levels_unique ys zs h k = rising_unique ys zs h.firsts k.firsts h.rising k.rising (covered ys zs h k) (covered zs ys k h)
      where
        covered : (ys zs : List A) → LevelsOf less xs ys → LevelsOf less xs zs → Covers less zs ys
        covered ys zs h k = of_firsts (λ (x : A). Any (Level less x) zs) k.covers ys h.firsts

pub levels_exact : {A : Type 0} (less : A → A → Bool) (Good : A → Type 0) → LevelsExact less Good
levels_exact less Good o xs ys g = (λ e. subst (LevelsOf less xs) e (levels_of less o xs g), λ h. levels_unique less o xs g (levels less xs) ys (levels_of less o xs g) h)
