-- The numbers below n, and a test that each passes.
use mathlib.Core.Path.{◌≡◌, refl, sym, ◌∙◌, ap, ap₂}
use mathlib.Core.Bool.{Bool, true, false, ◌&&◌}
use mathlib.Core.List.{List, [], ◌∷◌, ◌++◌}
use mathlib.Core.Logic.{⊎_elim}
use Prim.Native.Nat.{ℕ, zero, suc, ◌+◌, ◌<◌}
use native.Mathlib.Nat.{add-zero, zero-add}
use native.Mathlib.Omega.{arith}
use Rattle.std.specs.List.{list_all, range_with_len}
use Rattle.lists.specs.Tests.{all}
use Rattle.lists.proofs.Conjunction.{last, and_left, and_right}
use Rattle.connectivity.specs.Components.{own_numbers}
use Rattle.connectivity.proofs.Joining.{less_than, same_or_not}

module _ (f : ℕ → Bool) where
  all_last : (ns : List ℕ) (n : ℕ) → all f (ns ++ (n ∷ [])) ≡ all f ns && f n
  all_last [] n = sym (last refl)
  all_last (m ∷ ns) n = go (f m) (all_last ns n)
    where
      go : (b : Bool) → all f (ns ++ (n ∷ [])) ≡ all f ns && f n → b && all f (ns ++ (n ∷ [])) ≡ (b && all f ns) && f n
      go true e = e
      go false e = refl

  all_more : (n : ℕ) → all f (own_numbers (suc n)) ≡ all f (own_numbers n) && f n
  unfolding own_numbers
  all_more n = all_last (own_numbers n) n

  pub each_below : (n : ℕ) → all f (own_numbers n) ≡ true → (k : ℕ) → k < n → f k ≡ true
  each_below zero h k l = absurd (omega arith)
  each_below (suc n) h k l =
      let e = sym (all_more n) ∙ h in
      ⊎_elim
      (λ s. ap f s ∙ and_right (all f (own_numbers n)) (f n) e)
      (λ s. each_below n (and_left (all f (own_numbers n)) (f n) e) k (less_than k n l s))
      (same_or_not k n)

-- ---- the range from 0 to before n
range_last : (a n : ℕ) → range_with_len a (suc n) ≡ range_with_len a n ++ ((a + n) ∷ [])
range_last a zero = ap (λ (k : ℕ). k ∷ []) (sym (add-zero a))
range_last a (suc n) = let e : a + 1 + n ≡ a + suc n = omega arith in ap (λ (ns : List ℕ). a ∷ ns) (range_last (a + 1) n ∙ ap (λ (k : ℕ). range_with_len (a + 1) n ++ (k ∷ [])) e)

own_range : (n : ℕ) → range_with_len 0 n ≡ own_numbers n
unfolding own_numbers
own_range zero = refl
own_range (suc n) = range_last 0 n ∙ ap₂ (λ (ns : List ℕ) (k : ℕ). ns ++ (k ∷ [])) (own_range n) (zero-add n)

module _ (f : ℕ → Bool) where
  all_is : (ns : List ℕ) → list_all f ns ≡ all f ns
  all_is [] = refl
  all_is (n ∷ ns) = ap (λ (b : Bool). f n && b) (all_is ns)

  pub all_range : (n : ℕ) → list_all f (range_with_len 0 n) ≡ all f (own_numbers n)
  all_range n = all_is (range_with_len 0 n) ∙ ap (all f) (own_range n)
