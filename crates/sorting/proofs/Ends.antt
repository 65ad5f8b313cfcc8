-- Elements that belong to an end of a list in order: those that can be left out there.
use mathlib.Core.Path.{◌≡◌, refl, sym, ◌∙◌, ap}
use mathlib.Core.Bool.{Bool, true, false, cond}
use mathlib.Core.List.{List, [], ◌∷◌, ◌++◌}
use Rattle.lists.specs.Lists.{All}
use Rattle.lists.proofs.Lists.{all_map}
use Rattle.levels.specs.Levels.{insert}
use Rattle.levels.proofs.Laws.{insert_all}

module _ {A : Type 0} (less : A → A → Bool) where
  abbrev pub Under : A → A → Type 0
  Under x y = (less x y ≡ true) × (less y x ≡ false)

  -- ---- one element
  insert_first : (x : A) (ys : List A) → All (Under x) ys → insert less x ys ≡ x ∷ ys
  unfolding insert
  insert_first x [] h = refl
  insert_first x (y ∷ ys) h = rw h.0.0

  insert_past : (x y : A) (ys : List A) → Under x y → insert less y (x ∷ ys) ≡ x ∷ insert less y ys
  unfolding insert
  insert_past x y ys h = rw (h.1, h.0)

  insert_level : (x y : A) (ys : List A) → less y x ≡ false → less x y ≡ false → insert less y (x ∷ ys) ≡ y ∷ ys
  unfolding insert
  insert_level x y ys e f = rw (e, f)

  insert_last : (x : A) (ys : List A) → All (λ (y : A). Under y x) ys → insert less x ys ≡ ys ++ (x ∷ [])
  insert_last x [] h = unfold insert in refl
  insert_last x (y ∷ ys) h = insert_past y x ys h.0 ∙ ap (λ (r : List A). y ∷ r) (insert_last x ys h.1)

  insert_under : (x y : A) (ys : List A) → Under y x → insert less y (ys ++ (x ∷ [])) ≡ insert less y ys ++ (x ∷ [])
  unfolding insert
  insert_under x y [] h = rw h.0
  insert_under x y (z ∷ zs) h = go (less y z) (less z y) (insert_under x y zs h)
    where
      go : (s t : Bool) → insert less y (zs ++ (x ∷ [])) ≡ insert less y zs ++ (x ∷ [])
          → cond s (y ∷ z ∷ zs ++ (x ∷ [])) (cond t (z ∷ insert less y (zs ++ (x ∷ []))) (y ∷ zs ++ (x ∷ []))) ≡ cond s (y ∷ z ∷ zs) (cond t (z ∷ insert less y zs) (y ∷ zs)) ++ (x ∷ [])
      go true t e = refl
      go false true e = ap (λ (r : List A). z ∷ r) e
      go false false e = refl

  insert_level_last : (x y : A) (ys : List A) → All (λ (z : A). Under z y) ys → less y x ≡ false → less x y ≡ false → insert less y (ys ++ (x ∷ [])) ≡ ys ++ (y ∷ [])
  insert_level_last x y [] h e f = insert_level x y [] e f
  insert_level_last x y (z ∷ zs) h e f = insert_past z y (zs ++ (x ∷ [])) h.0 ∙ ap (λ (r : List A). z ∷ r) (insert_level_last x y zs h.1 e f)

  -- ---- two first ones and two last ones
  module _ (al ar bl br : A) (al_ar : Under al ar) (bl_br : Under bl br) (al_br : Under al br) (bl_ar : Under bl ar) where
    -- the second of the first ones left out
    module _ (rest : List A) (hb : All (Under bl) rest) where
      begun : insert less ar (insert less bl rest) ≡ bl ∷ insert less ar rest
      begun = ap (insert less ar) (insert_first bl rest hb) ∙ insert_past bl ar rest bl_ar

      pub first_less : Under bl al → insert less al (insert less ar (insert less bl rest)) ≡ bl ∷ insert less al (insert less ar rest)
      first_less h = ap (insert less al) begun ∙ insert_past bl al (insert less ar rest) h

      pub first_level : All (Under al) rest → less al bl ≡ false → less bl al ≡ false → insert less al (insert less ar (insert less bl rest)) ≡ insert less al (insert less ar rest)
      first_level ha e f = ap (insert less al) begun ∙ insert_level bl al (insert less ar rest) e f ∙ sym (insert_first al (insert less ar rest) (insert_all less (Under al) ar rest al_ar ha))

    -- the second of the last ones left out
    module _ (rest : List A) (ha : All (λ (y : A). Under y ar) rest) (hb : All (λ (y : A). Under y br) rest) where
      ended : insert less bl (insert less br rest) ≡ insert less bl rest ++ (br ∷ [])
      ended = ap (insert less bl) (insert_last br rest hb) ∙ insert_under br bl rest bl_br

      under_last : insert less ar (insert less bl rest) ≡ insert less bl rest ++ (ar ∷ [])
      under_last = insert_last ar (insert less bl rest) (insert_all less (λ (y : A). Under y ar) bl rest bl_ar ha)

      -- the first of the last ones is the last
      pub last_is : insert less al (insert less ar (insert less bl rest)) ≡ insert less al (insert less bl rest) ++ (ar ∷ [])
      last_is = ap (insert less al) under_last ∙ insert_under ar al (insert less bl rest) al_ar

      pub last_less : Under ar br → insert less al (insert less ar (insert less bl (insert less br rest))) ≡ insert less al (insert less ar (insert less bl rest)) ++ (br ∷ [])
      last_less h =
          ap (λ (r : List A). insert less al (insert less ar r)) ended
          ∙ ap (insert less al) (insert_under br ar (insert less bl rest) h)
          ∙ insert_under br al (insert less ar (insert less bl rest)) al_br

      pub last_level : less ar br ≡ false → less br ar ≡ false → insert less al (insert less ar (insert less bl (insert less br rest))) ≡ insert less al (insert less ar (insert less bl rest))
      last_level e f =
          ap (λ (r : List A). insert less al (insert less ar r)) ended
          ∙ ap (insert less al) (insert_level_last br ar (insert less bl rest) (insert_all less (λ (y : A). Under y ar) bl rest bl_ar ha) e f ∙ sym under_last)
