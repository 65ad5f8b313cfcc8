-- A column outside the range of A has no part that lies in A.
use mathlib.Core.Path.{◌≡◌, refl, sym, ◌∙◌, ap}
use mathlib.Core.Bool.{Bool, true, false, not, cond, true≢false}
use mathlib.Core.List.{List, [], ◌∷◌}
use mathlib.Core.Logic.{◌⊎◌, inl, inr}
use Prim.Native.Nat.{ℕ}
use native.Mathlib.Omega.{arith}
use lib.Dec.{T, eqb, ltb, nltb→le}
use borrow.Author.Tests.{ne_eqb}
use Rattle.lists.proofs.Tests.{true_is, yes_or_no}
use Rattle.geometry.specs.declared.Base.{Base}
use Rattle.geometry.specs.declared.Trapezoid.{Trapezoid}
use Rattle.geometry.specs.Positions.{position, below}
use Rattle.overlay.specs.Overlay.{tag_of}
use Rattle.trapezoids_code.specs.Tails.{in_front}
use Rattle.columns_code.specs.Order.{line_of_side, present_by, passing, enter_a, enter_b, strip, strips_from, strips}

-- ---- sides that are not there
no_first : (fb : Bool) (z : ℕ) (f : Bool) → present_by false fb z ≡ true → enter_a z f ≡ f
unfolding present_by enter_a
no_first fb z f e = go (yes_or_no (ltb z 2)) e
  where
    go : T (ltb z 2) ⊎ T (not (ltb z 2)) → cond (ltb z 2) false fb ≡ true → passing 0 1 z f ≡ f
    go (inl t) e = let u : ltb z 2 ≡ true = true_is t in absurd (true≢false (sym (rw u at e)))
    go (inr t) e =
        let l = nltb→le z 2 t in
        let a : eqb z 0 ≡ false = ne_eqb z 0 (λ w. omega (arith, l, w)) in
        let b : eqb z 1 ≡ false = ne_eqb z 1 (λ w. omega (arith, l, w)) in
        rw (a, b)

-- ---- the strips
either : (c : Bool) (xs ys : List Trapezoid) → xs ≡ [] → ys ≡ [] → cond c xs ys ≡ []
either true xs ys x y = x
either false xs ys x y = y

nothing : (b : Bool) (t : Trapezoid) (ts : List Trapezoid) → b ≡ false → ts ≡ [] → in_front b t ts ≡ []
nothing b t ts e f = rw (e, f)

if_there : (b : Bool) (xs : List Trapezoid) → (b ≡ true → xs ≡ []) → cond b xs [] ≡ []
if_there true xs f = f refl
if_there false xs f = refl

module _ (n : ℕ) (A B : Trapezoid) (p q : Base) where
  -- what is above the sides so far never lies in A
  outside_first : ((inb : Bool) → eqb (tag_of false inb) n ≡ false) → (fb : Bool) (rep : ℕ) (inb : Bool) (zs : List ℕ) → strips_from n A B p q false fb rep false inb zs ≡ []
  unfolding strips_from
  outside_first t fb rep inb [] = refl
  outside_first t fb rep inb (z ∷ zs) =
      if_there (present_by false fb z)
      (cond (below (position p) (line_of_side A B rep) (line_of_side A B z))
      (in_front (eqb (tag_of false inb) n) (strip A B p q rep z) (strips_from n A B p q false fb z (enter_a z false) (enter_b z inb) zs))
      (strips_from n A B p q false fb rep (enter_a z false) (enter_b z inb) zs))
      (λ e.
      let s = no_first fb z false e in
      either (below (position p) (line_of_side A B rep) (line_of_side A B z)) _ _
      (nothing (eqb (tag_of false inb) n) (strip A B p q rep z) (strips_from n A B p q false fb z (enter_a z false) (enter_b z inb) zs) (t inb)
      (ap (λ (f : Bool). strips_from n A B p q false fb z f (enter_b z inb) zs) s ∙ outside_first t fb z (enter_b z inb) zs))
      (ap (λ (f : Bool). strips_from n A B p q false fb rep f (enter_b z inb) zs) s ∙ outside_first t fb rep (enter_b z inb) zs))

  pub first_strips : ((inb : Bool) → eqb (tag_of false inb) n ≡ false) → (fb : Bool) (zs : List ℕ) → strips n A B p q false fb zs ≡ []
  unfolding strips
  first_strips t fb [] = refl
  first_strips t fb (z ∷ zs) =
      if_there (present_by false fb z) (strips_from n A B p q false fb z (enter_a z false) (enter_b z false) zs)
      (λ e. ap (λ (f : Bool). strips_from n A B p q false fb z f (enter_b z false) zs) (no_first fb z false e) ∙ outside_first t fb z (enter_b z false) zs)
