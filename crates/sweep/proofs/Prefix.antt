-- A test that holds of a first part of an order, as "at or below a point" does of the lines of a column: it is decided by the last group that passes.
use mathlib.Core.Path.{◌≡◌, refl, ◌∙◌}
use mathlib.Core.Bool.{Bool, not, cond}
use mathlib.Core.List.{List, [], ◌∷◌}
use mathlib.Core.Logic.{inl, inr}
use lib.Dec.{T, T_not, not_T}
use Rattle.lists.specs.Lists.{All, Any, Member}
use Rattle.lists.proofs.Tests.{yes_or_no, cond_yes, cond_no, same_test}
use Rattle.lists.proofs.Lists.{all_map, all_with, any_elim, all_both}
use Rattle.lists.proofs.Members.{all_member}
use Rattle.levels.specs.Levels.{AtMost, Level, StrictWeakOrder, levels, Rising}
use Rattle.levels.proofs.Order.{at_most_refl}
use Rattle.levels.proofs.Laws.{levels_all, levels_rising, levels_cover}

module _ {A : Type 0} (f : A → Bool) where
  abbrev pub Prefix : List A → Type 0
  Prefix [] = Unit {0}
  Prefix (g ∷ gs) = (T (not (f g)) → All (λ (h : A). T (not (f h))) gs) × Prefix gs

  -- W of the last that passes, or z where none does
  abbrev pub value : {Y : Type 0} → (A → Y) → Y → List A → Y
  value W z [] = z
  value W z (g ∷ gs) = cond (f g) (value W (W g) gs) z

module _ {A : Type 0} {less : A → A → Bool} {Good : A → Type 0} (o : StrictWeakOrder less Good) (f : A → Bool)
    (down : (x y : A) → Good x → Good y → AtMost less x y → T (f y) → T (f x)) where
  pub prefix : (gs : List A) → All Good gs → Rising less gs → Prefix f gs
  prefix [] h r = tt
  prefix (g ∷ gs) h r = ((λ n. all_with (λ s gs l. not_T (f s) (λ b. T_not (f g) n (down g s h.0 gs (o.asymmetric g s l) b))) gs h.1 r.0), prefix gs h.1 r.1)

  module _ {Y : Type 0} (W : A → Y) where
    data Last (z : Y) (gs : List A) : Type 0 where
      none_passes : value f W z gs ≡ z → All (λ (s : A). T (not (f s))) gs → Last z gs
      last_passes : (g : A) → Member g gs → T (f g) → value f W z gs ≡ W g → All (λ (s : A). T (f s) → AtMost less s g) gs → Last z gs

    last : (z : Y) (gs : List A) → All Good gs → Rising less gs → Last z gs
    last z [] h r = none_passes refl tt
    last z (g ∷ gs) h r = elim (yes_or_no (f g)) [ inl b ↦ passes b (last (W g) gs h.1 r.1) | inr b ↦ none_passes (cond_no (f g) (value f W (W g) gs) z b) (b, (prefix (g ∷ gs) h r).0 b) ]
      where
        passes : T (f g) → Last (W g) gs → Last z (g ∷ gs)
        passes b (none_passes e a) = last_passes g (inl refl) b (cond_yes (f g) (value f W (W g) gs) z b ∙ e) ((λ c. at_most_refl less o g), all_map (λ s n c. absurd (T_not (f s) n c)) gs a)
        passes b (last_passes k m c e a) = last_passes k (inr m) c (cond_yes (f g) (value f W (W g) gs) z b ∙ e) ((λ d. o.asymmetric g k (all_member (λ (s : A). T (less g s)) k gs r.0 m)), a)

    -- of the elements of a list none passes, or just those pass that are at or below the last group that does
    pub data Decided (z : Y) (xs : List A) : Type 0 where
      nothing : value f W z (levels less xs) ≡ z → All (λ (x : A). T (not (f x))) xs → Decided z xs
      up_to_lem : (g : A) → Good g → value f W z (levels less xs) ≡ W g → All (λ (x : A). not (less g x) ≡ f x) xs → Decided z xs

    pub decided : (z : Y) (xs : List A) → All Good xs → Decided z xs
    decided z xs h = go (last z gs goods (levels_rising less o xs h))
      where
        gs : List A
        gs = levels less xs

        goods : All Good gs
        goods = levels_all less Good xs h

        -- an element that passes is level with a group that passes
        shown : (P : A → Type 0) → All P gs → (x : A) → Good x → T (f x) → Any (Level less x) gs → (s : A) × Good s × T (f s) × AtMost less x s × P s
        shown P a x gx b c = any_elim (λ s k l. (s, k.0, down s x k.0 gx l.1 b, l.0, k.1)) gs (all_both Good P gs goods a) c

        go : Last z gs → Decided z xs
        go (none_passes e a) = nothing e (all_with misses xs h (levels_cover less o xs h))
          where
            misses : (x : A) → Good x → Any (Level less x) gs → T (not (f x))
            misses x gx c = not_T (f x) (λ b. let s = shown (λ (s : A). T (not (f s))) a x gx b c in T_not (f s.0) s.4 s.2)
        go (last_passes g m b e a) = up_to_lem g gg e (all_with at_most xs h (levels_cover less o xs h))
          where
            gg : Good g
            gg = all_member Good g gs goods m

            at_most : (x : A) → Good x → Any (Level less x) gs → not (less g x) ≡ f x
            at_most x gx c =
                same_test (not (less g x)) (f x)
                (λ l. down x g gx gg l b)
                (λ p. let s = shown (λ (s : A). T (f s) → AtMost less s g) a x gx p c in o.transitive x s.0 g gx s.1 gg s.3 (s.4 s.2))
