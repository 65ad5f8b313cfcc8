-- Laws of decimal text.
use mathlib.Core.Path.{◌≡◌, refl, sym, ap, ◌∙◌}
use mathlib.Core.Bool.{Bool, true, false}
use mathlib.Core.List.{List, [], ◌∷◌, ◌++◌}
use Prim.Native.Nat.{ℕ, zero, suc, ◌+◌, ◌*◌, ◌-◌, ◌/◌, ◌%◌, ◌^◌, ◌<◌, ◌≤◌}
use native.Mathlib.Omega.{arith}
use lib.Dec.{ltb}
use lib.IntN.{pos, negsuc}
use lib.ListN.{length, length-append, get_or-append}
use borrow.Author.Tests.{lt-ltb, le-ltb, ltb-true, ltb-false, ne_eqb}
use Rattle.lists.specs.Lists.{All}
use Rattle.lists.proofs.Lists.{all_append}
use Rattle.integer.specs.Integer.{⊝◌}
use Rattle.listing.specs.Listing.{digits, decimal, decimal_word}
use Rattle.listing.specs.Statements.{read_from, IsDigit, Exact, DecimalExact, read_word, WordExact}

digits_small : (k n : ℕ) → n < 10 → digits (suc k) n ≡ (48 + n) ∷ []
unfolding digits
digits_small k n l = rw (digits, lt-ltb n 10 l) refl

digits_large : (k n : ℕ) → 10 ≤ n → digits (suc k) n ≡ digits k (n / 10) ++ ((48 + n % 10) ∷ [])
unfolding digits
digits_large k n l = rw (digits, le-ltb n 10 l) refl

module _ (P : ℕ → Type 0) (small : (n : ℕ) → n < 10 → P n) (large : (n : ℕ) → 10 ≤ n → P (n / 10) → P n) where
  step : (n : ℕ) → (10 ≤ n → P (n / 10)) → (b : Bool) → ltb n 10 ≡ b → P n
  step n f true e = small n (ltb-true n 10 e)
  step n f false e = let h : 10 ≤ n = ltb-false n 10 e in large n h (f h)

  within : (k n : ℕ) → n ≤ k → P n
  within zero n l = small n (omega arith)
  within (suc k) n l = step n (λ (h : 10 ≤ n). within k (n / 10) (omega arith)) (ltb n 10) refl

  -- by the digits: from n / 10 to n
  pub by_digits : (n : ℕ) → P n
  by_digits n = within n n (omega arith)

-- more digits than enough are as good
enough : (n j k : ℕ) → n ≤ j → n ≤ k → digits (suc j) n ≡ digits (suc k) n
enough = by_digits (λ (n : ℕ). (j k : ℕ) → n ≤ j → n ≤ k → digits (suc j) n ≡ digits (suc k) n)
    (λ n l j k a b. digits_small j n l ∙ sym (digits_small k n l))
    go
  where
    go : (n : ℕ) → 10 ≤ n → ((j k : ℕ) → n / 10 ≤ j → n / 10 ≤ k → digits (suc j) (n / 10) ≡ digits (suc k) (n / 10)) → (j k : ℕ) → n ≤ j → n ≤ k → digits (suc j) n ≡ digits (suc k) n
    go n l f zero k a b = absurd (omega arith)
    go n l f (suc j) zero a b = absurd (omega arith)
    go n l f (suc j) (suc k) a b = digits_large (suc j) n l ∙ ap (λ (x : List ℕ). x ++ ((48 + n % 10) ∷ [])) (f j k (omega arith) (omega arith)) ∙ sym (digits_large (suc k) n l)

pub decimal_small : (n : ℕ) → n < 10 → decimal n ≡ (48 + n) ∷ []
unfolding decimal
decimal_small n l = digits_small n n l

pub decimal_large : (n : ℕ) → 10 ≤ n → decimal n ≡ decimal (n / 10) ++ ((48 + n % 10) ∷ [])
unfolding decimal
decimal_large zero l = absurd (omega arith)
decimal_large (suc n) l = digits_large (suc n) (suc n) l ∙ ap (λ (x : List ℕ). x ++ ((48 + suc n % 10) ∷ [])) (enough (suc n / 10) n (suc n / 10) (omega arith) (omega arith))

-- ---- how many digits
pub length_small : (n : ℕ) → n < 10 → length (decimal n) ≡ 1
length_small n l = ap length (decimal_small n l)

pub length_large : (n : ℕ) → 10 ≤ n → length (decimal n) ≡ length (decimal (n / 10)) + 1
length_large n l = ap length (decimal_large n l) ∙ length-append (decimal (n / 10)) ((48 + n % 10) ∷ [])

pub length_some : (n : ℕ) → 1 ≤ length (decimal n)
length_some = by_digits (λ (n : ℕ). 1 ≤ length (decimal n)) (λ n l. omega (arith, length_small n l)) (λ n l h. omega (arith, length_large n l))

pub length_most : (k n : ℕ) → n < 10 ^ suc k → length (decimal n) ≤ suc k
length_most zero n l = omega (arith, length_small n l)
length_most (suc k) n l = go (length_most k (n / 10)) (ltb n 10) refl
  where
    go : (n / 10 < 10 ^ suc k → length (decimal (n / 10)) ≤ suc k) → (b : Bool) → ltb n 10 ≡ b → length (decimal n) ≤ suc (suc k)
    go f true e = omega (arith, length_small n (ltb-true n 10 e))
    go f false e = let m : length (decimal (n / 10)) ≤ suc k = f (omega arith) in omega (arith, length_large n (ltb-false n 10 e))

-- ---- what the digits say
read_append : (m : ℕ) (s t : List ℕ) → read_from m (s ++ t) ≡ read_from (read_from m s) t
unfolding read_from
read_append m [] t = refl
read_append m (c ∷ s) t = read_append (10 * m + (c - 48)) s t

read_one : (m c : ℕ) → read_from m (c ∷ []) ≡ 10 * m + (c - 48)
unfolding read_from
read_one m c = refl

all_small : (n : ℕ) → n < 10 → Exact n
all_small n l =
    record {
      all_digits = rw (decimal_small n l) ((omega arith, omega arith), tt);
      reads_back = rw (decimal_small n l, read_one) (omega arith);
      no_leading_zero = λ h. rw (decimal_small n l) (omega arith);
    }

all_large : (n : ℕ) → 10 ≤ n → Exact (n / 10) → Exact n
all_large n l h =
    let e = decimal_large n l in
    record {
      all_digits = rw (e) (all_append IsDigit (decimal (n / 10)) ((48 + n % 10) ∷ []) h.all_digits ((omega arith, omega arith), tt));
      reads_back = rw (e, read_append, h.reads_back, read_one) (omega arith);
      no_leading_zero = λ z. rw (e, get_or-append (decimal (n / 10)) ((48 + n % 10) ∷ []) 0 0 (length_some (n / 10))) (h.no_leading_zero (omega arith));
    }

pub decimal_exact : DecimalExact
decimal_exact = by_digits Exact all_small all_large

read_natural : (t : List ℕ) (n : ℕ) → All IsDigit t → 1 ≤ length t → read_from 0 t ≡ n → read_word t ≡ pos n
unfolding read_word
read_natural [] n a l e = absurd (omega arith)
read_natural (c ∷ cs) n a l e = rw (read_word, ne_eqb c 45 (λ (f : c ≡ 45). omega (arith, f, a.0.0))) (ap pos e)

pub word_exact : WordExact
unfolding read_word decimal_word ⊝◌
word_exact (pos n) = read_natural (decimal n) n (decimal_exact n).all_digits (length_some n) (decimal_exact n).reads_back
word_exact (negsuc n) = ap (λ (k : ℕ). ⊝ pos k) (decimal_exact (suc n)).reads_back
