-- The directory pair by pair, and what a directory that is right says of them.
use Rattle.std.specs.Prelude.{Option, Some, None}
use mathlib.Core.Path.{◌≡◌, refl, sym, ap, ◌∙◌}
use mathlib.Core.List.{List}
use Prim.Native.Nat.{ℕ, ◌+◌, ◌*◌, ◌≤◌}
use native.Mathlib.Omega.{arith}
use lib.Dec.{leb}
use lib.ListN.{length}
use lib.IntN.{ℤ, pos}
use borrow.Author.Tests.{lt-leb, leb-true}
use Rattle.files.specs.declared.Format.{Format}
use Rattle.files.specs.Formats.{word_at}
use Rattle.files.specs.Directory.{number_from, complete, count_of, length_by, pair_length, pairs_from, directory_of, wrong_by}
use Rattle.files.proofs.Numbers.{IsNumber, number, only_of}

-- ---- a pair that is right
pub record IsPair (f : Format) (before : ℕ) (offset len : ℤ) (n : ℕ) : Type 0 where
  pub start : offset ≡ pos before
  pub is : len ≡ pos n
  pub low : f.least ≤ n
  pub high : n ≤ f.most
  pub total : before + n ≤ f.total

pub pair : (f : Format) (before : ℕ) (offset len : ℤ) {n : ℕ} → pair_length f before offset len ≡ Some n → IsPair f before offset len n
unfolding pair_length
pair f before offset len {n} e = go (number_from before before offset) (number_from f.least f.most len) refl refl e
  where
    go : (a b : Option ℕ) → number_from before before offset ≡ a → number_from f.least f.most len ≡ b → length_by f before a b ≡ Some n → IsPair f before offset len n
    go (Some o) (Some m) p q e =
        let u = number before before offset p in
        let v = number f.least f.most len q in
        let w = only_of (leb (before + m) f.total) m e in
        let x : o ≡ before = omega (arith, u.low, u.high) in
        record {
          start = u.is ∙ ap pos x;
          is = v.is ∙ ap pos w.1;
          low = omega (arith, v.low, w.1);
          high = omega (arith, v.high, w.1);
          total = omega (arith, leb-true (before + m) f.total w.0, w.1);
        }
    go (Some o) None p q e = let z : ◌≡◌ {A = ℕ} 0 1 = cc in absurd (omega arith)
    go None b p q e = let z : ◌≡◌ {A = ℕ} 0 1 = cc in absurd (omega arith)

-- ---- rows 5 and 6 together
module _ (f : Format) (ws : List ℤ) where
  pub directory_none : count_of f ws ≡ None → wrong_by 5 0 ≡ directory_of f ws
  unfolding directory_of
  directory_none e = rw e

  pub directory_some : {n : ℕ} → count_of f ws ≡ Some n → pairs_from f ws n 0 0 ≡ directory_of f ws
  unfolding directory_of
  directory_some e = rw e

  -- the count, of word 0 and the number of words as they were read
  pub count_read : {first : ℤ} {words : ℕ} → first ≡ word_at ws 0 → length ws ≡ words → count_of f ws ≡ complete (number_from 0 f.count first) words
  unfolding count_of
  count_read p q = λ j. complete (number_from 0 f.count (sym p j)) (q j)

  -- no word at all
  pub directory_empty : length ws ≡ 0 → wrong_by 5 0 ≡ directory_of f ws
  unfolding count_of
  directory_empty e = directory_none (ap (complete (number_from 0 f.count (word_at ws 0))) e ∙ go (number_from 0 f.count (word_at ws 0)))
    where
      go : (k : Option ℕ) → complete k 0 ≡ None
      go (Some n) = rw (lt-leb (2 * n + 1) 0 (omega arith))
      go None = refl

  -- a count that row 5 lets pass
  pub count_is : {n : ℕ} → count_of f ws ≡ Some n → IsNumber 0 f.count (word_at ws 0) n × (2 * n + 1 ≤ length ws)
  unfolding count_of
  count_is {n} e = go (number_from 0 f.count (word_at ws 0)) refl e
    where
      go : (k : Option ℕ) → number_from 0 f.count (word_at ws 0) ≡ k → complete k (length ws) ≡ Some n → IsNumber 0 f.count (word_at ws 0) n × (2 * n + 1 ≤ length ws)
      go (Some m) p e =
          let w = only_of (leb (2 * m + 1) (length ws)) m e in
          (number 0 f.count (word_at ws 0) (p ∙ ap Some w.1), omega (arith, leb-true (2 * m + 1) (length ws) w.0, w.1))
      go None p e = let z : ◌≡◌ {A = ℕ} 0 1 = cc in absurd (omega arith)
