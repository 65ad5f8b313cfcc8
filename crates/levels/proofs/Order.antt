-- Laws of an order that a test gives, and of rising lists.
use mathlib.Core.Bool.{Bool}
use mathlib.Core.List.{List, ◌∷◌}
use mathlib.Core.Logic.{inl, inr}
use lib.Dec.{T, T_not}
use Rattle.lists.specs.Lists.{All, Any}
use Rattle.lists.proofs.Tests.{yes_or_no}
use Rattle.lists.proofs.Lists.{all_with, any_elim, all_both}
use Rattle.levels.specs.Levels.{AtMost, Level, StrictWeakOrder, Rising}

module _ {A : Type 0} (less : A → A → Bool) where
  -- x is less than each of ys
  abbrev pub LessThanAll : A → List A → Type 0
  LessThanAll x ys = All (λ (y : A). T (less x y)) ys

  pub less_not_level : (x y : A) → T (less x y) → ¬ Level less x y
  less_not_level x y h l = T_not (less x y) l.1 h

  pub greater_not_level : (x y : A) → T (less y x) → ¬ Level less x y
  greater_not_level x y h l = T_not (less y x) l.0 h

  module _ {Good : A → Type 0} (o : StrictWeakOrder less Good) where
    pub at_most_refl : (x : A) → AtMost less x x
    at_most_refl x = elim (yes_or_no (less x x)) [ inl h ↦ o.asymmetric x x h | inr h ↦ h ]

    pub less_at_most : (x y z : A) → Good x → Good y → Good z → T (less x y) → AtMost less y z → T (less x z)
    less_at_most x y z gx gy gz h k = elim (yes_or_no (less x z)) [ inl j ↦ j | inr j ↦ absurd (T_not (less x y) (o.transitive y z x gy gz gx k j) h) ]

    pub at_most_less : (x y z : A) → Good x → Good y → Good z → AtMost less x y → T (less y z) → T (less x z)
    at_most_less x y z gx gy gz h k = elim (yes_or_no (less x z)) [ inl j ↦ j | inr j ↦ absurd (T_not (less y z) (o.transitive z x y gz gx gy j h) k) ]

    pub less_trans : (x y z : A) → Good x → Good y → Good z → T (less x y) → T (less y z) → T (less x z)
    less_trans x y z gx gy gz h k = less_at_most x y z gx gy gz h (o.asymmetric y z k)

    pub level_refl : (x : A) → Level less x x
    level_refl x = (at_most_refl x, at_most_refl x)

    pub level_trans : (x y z : A) → Good x → Good y → Good z → Level less x y → Level less y z → Level less x z
    level_trans x y z gx gy gz h k = (o.transitive x y z gx gy gz h.0 k.0, o.transitive z y x gz gy gx k.1 h.1)

    -- what is at most y is less than each that y is less than
    pub less_than_all : (x y : A) (zs : List A) → Good x → Good y → All Good zs → AtMost less x y → LessThanAll y zs → LessThanAll x zs
    less_than_all x y zs gx gy g h k = all_with (λ z gz j. at_most_less x y z gx gy gz h j) zs g k

    -- the least of a rising list is at most whatever is level with one of the list
    pub rising_least : (x y : A) (ys : List A) → Good x → Good y → All Good ys → Rising less (y ∷ ys) → Any (Level less x) (y ∷ ys) → AtMost less y x
    rising_least x y ys gx gy g r (inl l) = l.1
    rising_least x y ys gx gy g r (inr l) = any_elim above ys (all_both Good (λ (z : A). T (less y z)) ys g r.0) l
      where
        above : (z : A) → Good z × T (less y z) → Level less x z → AtMost less y x
        above z h k = o.asymmetric y x (less_at_most y z x gy h.0 gx h.1 k.1)
