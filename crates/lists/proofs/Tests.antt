-- Laws of Booleans: both ways between `T` and an equation, cases of a test, and what tests together say.
use mathlib.Core.Path.{◌≡◌, refl, sym, subst}
use mathlib.Core.Bool.{Bool, true, false, not, cond, ◌&&◌, ◌||◌, true≢false}
use mathlib.Core.Logic.{◌⊎◌, inl, inr, ◌↔◌}
use lib.Dec.{T}

-- ---- facts and equations
pub true_is : {t : Bool} → T t → t ≡ true
true_is {t = true} h = refl
true_is {t = false} h = absurd h

pub false_is : {t : Bool} → T (not t) → t ≡ false
false_is {t = true} h = absurd h
false_is {t = false} h = refl

pub is_true : {t : Bool} → t ≡ true → T t
is_true e = subst T (sym e) tt

pub is_false : {t : Bool} → t ≡ false → T (not t)
is_false e = subst (λ (x : Bool). T (not x)) (sym e) tt

-- two tests that imply each other
pub same_test : (a b : Bool) → (T a → T b) → (T b → T a) → a ≡ b
same_test true true f g = refl
same_test true false f g = absurd (f tt)
same_test false true f g = absurd (g tt)
same_test false false f g = refl

-- ---- cases
pub yes_or_no : (b : Bool) → T b ⊎ T (not b)
yes_or_no true = inl tt
yes_or_no false = inr tt

module _ {A : Type 0} where
  -- to prove something of `cond b x y`: of x if the test says yes, and of y if it says no
  pub cond_cases : (P : A → Type 0) (b : Bool) (x y : A) → (T b → P x) → (T (not b) → P y) → P (cond b x y)
  cond_cases P true x y f g = f tt
  cond_cases P false x y f g = g tt

  pub cond_yes : (b : Bool) (x y : A) → T b → cond b x y ≡ x
  cond_yes true x y h = refl
  cond_yes false x y h = absurd h

  pub cond_no : (b : Bool) (x y : A) → T (not b) → cond b x y ≡ y
  cond_no true x y h = absurd h
  cond_no false x y h = refl

-- ---- tests together
pub or_left : (a b : Bool) → T a → T (a || b)
or_left true b h = tt
or_left false b h = absurd h

pub or_right : (a b : Bool) → T b → T (a || b)
or_right true b h = tt
or_right false b h = h

pub or_exact : (a b : Bool) (X Y : Type 0) → T a ↔ X → T b ↔ Y → T (a || b) ↔ (X ⊎ Y)
or_exact true b X Y h k = ((λ t. inl (h.0 tt)), (λ x. tt))
or_exact false b X Y h k = ((λ t. inr (k.0 t)), (λ x. elim x [ inl y ↦ absurd (h.1 y) | inr y ↦ k.1 y ]))

pub either_false : (a b : Bool) → a || b ≡ false → (a ≡ false) × (b ≡ false)
either_false true b e = absurd (true≢false e)
either_false false b e = (refl, e)

pub and_not_exact : (a b : Bool) → T (a && not b) ↔ (T a × (T b → ⊥))
and_not_exact true true = ((λ h. absurd h), (λ h. h.1 tt))
and_not_exact true false = ((λ h. (tt, (λ k. k))), (λ h. tt))
and_not_exact false b = ((λ h. absurd h), (λ h. h.0))
