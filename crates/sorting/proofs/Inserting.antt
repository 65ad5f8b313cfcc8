-- An element put into an array: those behind its place are moved on by one, the last of them first, and it fills the gap.
use mathlib.Core.Path.{◌≡◌, refl, sym, ◌∙◌, ap, subst}
use mathlib.Core.List.{List, [], ◌∷◌, ◌++◌}
use Prim.Native.Nat.{ℕ, zero, suc, ◌+◌, ◌-◌, ◌<◌, ◌≤◌}
use native.Mathlib.Omega.{arith}
use native.Mathlib.Numerals.{add-one}
use lib.ListN.{length, get_or, set, take, drop, length-set}
use lib.Seq.{length-take-le, take-take, take-suc-set, take-set-lt, drop-nil, get_or-take, get_or-set_other}
use Rattle.sorting.specs.Sorted.{inserted}

pub drop_past : {A : Type 0} (l : List A) (k : ℕ) → length l ≤ k → drop k l ≡ []
drop_past [] k h = drop-nil k
drop_past (x ∷ l) zero h = absurd (omega arith)
drop_past (x ∷ l) (suc k) h = drop_past l k (omega arith)

-- the gap moved down by one
gap_down : {A : Type 0} (l : List A) (j : ℕ) (x d : A) → j < length l → set (inserted (suc j) (get_or l j d) l) j x ≡ inserted j x l
gap_down [] j x d h = absurd (omega arith)
gap_down (y ∷ l) zero x d h = refl
gap_down (y ∷ l) (suc j) x d h = ap (λ (r : List _). y ∷ r) (gap_down l j x d (omega arith))

-- number k is the gap: with any element there, that element has been put in at k
pub record Inserting {A : Type 0} (d : A) (l₀ : List A) (n : ℕ) (l : List A) (k : ℕ) : Type 0 where
  pub filled : (x : A) → take (n + 1) (set l k x) ≡ inserted k x (take n l₀)
  pub before : (j : ℕ) → j < k → get_or l j d ≡ get_or l₀ j d
  pub long : length l ≡ length l₀
  pub upto : k ≤ n
  pub room : n < length l₀

module _ {A : Type 0} (d : A) (l₀ : List A) (n : ℕ) where
  pub inserting_start : n < length l₀ → Inserting d l₀ n l₀ n
  inserting_start r =
      let e = length-take-le n l₀ (omega arith) in
      record {
        filled = λ x. (let f : take (n + 1) (set l₀ n x) ≡ take n l₀ ++ (x ∷ []) = rw add-one (take-suc-set l₀ n x r) in f) ∙ sym (rw (take-take n n l₀ (omega arith), drop_past (take n l₀) n (omega (arith, e))));
        before = λ j h. refl;
        long = refl;
        upto = omega arith;
        room = r;
      }

  pub inserting_next : (l : List A) (k : ℕ) (l' : List A) → Inserting d l₀ n l k → 0 < k → l' ≡ set l k (get_or l (k - 1) d) → Inserting d l₀ n l' (k - 1)
  inserting_next l zero l' h p e = absurd (omega arith)
  inserting_next l (suc j) l' h p e =
      let m : suc j - 1 ≡ j = omega arith in
      subst (λ (i : ℕ). Inserting d l₀ n l' i) (sym m) (subst (λ (f : List A). Inserting d l₀ n f j) (sym (e ∙ ap (λ (i : ℕ). set l (suc j) (get_or l i d)) m)) step)
    where
      y : A
      y = get_or l j d

      there : y ≡ get_or (take n l₀) j d
      there = h.before j (omega arith) ∙ sym (get_or-take n l₀ j d (omega (arith, h.upto)))

      step : Inserting d l₀ n (set l (suc j) y) j
      step = record {
        filled = λ x.
            take-set-lt (n + 1) (set l (suc j) y) j x (omega (arith, h.upto))
            ∙ ap (λ (f : List A). set f j x) (h.filled y ∙ ap (λ (z : A). inserted (suc j) z (take n l₀)) there)
            ∙ gap_down (take n l₀) j x d (omega (arith, h.upto, length-take-le n l₀ (omega (arith, h.room))));
        before = λ i q. get_or-set_other l (suc j) i y d (λ z. omega (arith, z)) ∙ h.before i (omega arith);
        long = length-set l (suc j) y ∙ h.long;
        upto = omega (arith, h.upto);
        room = h.room;
      }

  pub inserting_last : (l : List A) (k i : ℕ) (x : A) (l' : List A) → Inserting d l₀ n l k → i ≤ k → k ≤ i → l' ≡ set l i x → take (n + 1) l' ≡ inserted i x (take n l₀)
  inserting_last l k i x l' h a b e = let m : i ≡ k = omega arith in ap (take (n + 1)) (e ∙ ap (λ (j : ℕ). set l j x) m) ∙ h.filled x ∙ ap (λ (j : ℕ). inserted j x (take n l₀)) (sym m)
