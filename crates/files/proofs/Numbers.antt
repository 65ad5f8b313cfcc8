-- The number of a word in a range, and what the tests of rows 5 and 6 yield.
use Rattle.std.specs.Prelude.{Option, Some, None}
use mathlib.Core.Path.{◌≡◌, refl, sym, ap, ◌∙◌, subst}
use mathlib.Core.Bool.{Bool, true, false, ◌&&◌}
use Prim.Native.Nat.{ℕ, ◌+◌, ◌*◌, ◌<◌, ◌≤◌}
use native.Mathlib.Omega.{arith}
use lib.Dec.{T, leb}
use lib.IntN.{ℤ, pos, negsuc, nat_abs}
use lib.Signed.{lt_z, non_neg}
use mir.Syntax.{w64}
use mir.Val.{Fits, SFits, to_z, of_z}
use mir.Facts.{to_z-of_z}
use borrow.Author.Tests.{le-leb, lt-leb, leb-true, ltb-true}
use Rattle.files.specs.declared.Format.{Format}
use Rattle.files.specs.Pairs.{natural_of}
use Rattle.files.specs.Directory.{only, number_from, complete, pair_length}

-- ---- a number that is not negative, in the machine's bits
pub negative : (z : ℤ) → lt_z z (pos 0) ≡ true → None ≡ natural_of z
negative (pos n) t = absurd (let l = ltb-true n 0 t in let z : ⊥ = omega arith in z)
negative (negsuc n) t = refl

pub kept : (z : ℤ) → SFits w64 z → lt_z z (pos 0) ≡ false → T (non_neg (to_z w64 (of_z w64 z))) × Fits w64 (nat_abs (to_z w64 (of_z w64 z)))
kept z f t = subst (λ (y : ℤ). T (non_neg y) × Fits w64 (nat_abs y)) (sym (to_z-of_z f)) (go z f t)
  where
    go : (z : ℤ) → SFits w64 z → lt_z z (pos 0) ≡ false → T (non_neg z) × Fits w64 (nat_abs z)
    go (pos n) f t = (tt, record { fits = omega (arith, f.sfits) })
    go (negsuc n) f t = let z : ◌≡◌ {A = ℕ} 0 1 = cc in absurd (omega arith)

pub natural : (z : ℤ) → SFits w64 z → lt_z z (pos 0) ≡ false → Some (nat_abs (to_z w64 (of_z w64 z))) ≡ natural_of z
natural z f t = ap (λ (y : ℤ). Some (nat_abs y)) (to_z-of_z f) ∙ go z t
  where
    go : (z : ℤ) → lt_z z (pos 0) ≡ false → Some (nat_abs z) ≡ natural_of z
    go (pos n) t = refl
    go (negsuc n) t = let z : ◌≡◌ {A = ℕ} 0 1 = cc in absurd (omega arith)

-- ---- from least to most
module _ (a b : ℕ) (z : ℤ) where
  pub no_number : natural_of z ≡ None → None ≡ number_from a b z
  unfolding number_from
  no_number e = rw e

  module _ {n : ℕ} (e : natural_of z ≡ Some n) where
    pub too_low : n < a → None ≡ number_from a b z
    unfolding number_from
    too_low h = rw (e, lt-leb a n h)

    pub too_high : a ≤ n → b < n → None ≡ number_from a b z
    unfolding number_from
    too_high h k = rw (e, le-leb a n h, lt-leb n b k)

    pub in_range_lem : a ≤ n → n ≤ b → Some n ≡ number_from a b z
    unfolding number_from
    in_range_lem h k = rw (e, le-leb a n h, le-leb n b k)

-- ---- what a number found says
pub only_of : (t : Bool) (n : ℕ) {m : ℕ} → only t n ≡ Some m → (t ≡ true) × (n ≡ m)
only_of true n e = (refl, cc)
only_of false n e = let z : ◌≡◌ {A = ℕ} 0 1 = cc in absurd (omega arith)

pub record IsNumber (a b : ℕ) (z : ℤ) (n : ℕ) : Type 0 where
  pub is : z ≡ pos n
  pub low : a ≤ n
  pub high : n ≤ b

pub number : (a b : ℕ) (z : ℤ) {n : ℕ} → number_from a b z ≡ Some n → IsNumber a b z n
unfolding number_from
number a b (pos m) {n} e = by_tests (leb a m) (leb m b) refl refl e
  where
    by_tests : (s t : Bool) → leb a m ≡ s → leb m b ≡ t → only (s && t) m ≡ Some n → IsNumber a b (pos m) n
    by_tests true true p q e =
        let f : m ≡ n = cc in
        record { is = ap pos f; low = omega (arith, leb-true a m p); high = omega (arith, leb-true m b q) }
    by_tests true false p q e = let z : ◌≡◌ {A = ℕ} 0 1 = cc in absurd (omega arith)
    by_tests false t p q e = let z : ◌≡◌ {A = ℕ} 0 1 = cc in absurd (omega arith)
number a b (negsuc m) e = let z : ◌≡◌ {A = ℕ} 0 1 = cc in absurd (omega arith)

-- ---- row 5
module _ {k : (Option ℕ)} (words : ℕ) where
  pub none_complete : k ≡ None → None ≡ complete k words
  none_complete e = rw e

  module _ {n : ℕ} (e : k ≡ Some n) where
    pub incomplete : words < 2 * n + 1 → None ≡ complete k words
    incomplete h = rw (e, lt-leb (2 * n + 1) words h)

    pub completed : 2 * n + 1 ≤ words → Some n ≡ complete k words
    completed h = rw (e, le-leb (2 * n + 1) words h)

-- ---- row 6
module _ (f : Format) (before : ℕ) (offset len : ℤ) where
  pub wrong_offset : number_from before before offset ≡ None → None ≡ pair_length f before offset len
  unfolding pair_length
  wrong_offset e = rw e

  module _ {o : ℕ} (e : number_from before before offset ≡ Some o) where
    pub wrong_length : number_from f.least f.most len ≡ None → None ≡ pair_length f before offset len
    unfolding pair_length
    wrong_length g = rw (e, g)

    module _ {n : ℕ} (g : number_from f.least f.most len ≡ Some n) where
      pub above_total : f.total < before + n → None ≡ pair_length f before offset len
      unfolding pair_length
      above_total h = rw (e, g, lt-leb (before + n) f.total h)

      pub right_pair : before + n ≤ f.total → Some n ≡ pair_length f before offset len
      unfolding pair_length
      right_pair h = rw (e, g, le-leb (before + n) f.total h)
