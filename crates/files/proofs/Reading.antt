-- The words of a file's bytes, one by one.
use mathlib.Core.Path.{◌≡◌, refl, sym, ap, ◌∙◌}
use mathlib.Core.List.{List, [], ◌∷◌}
use Prim.Native.Nat.{ℕ, zero, suc, ◌+◌, ◌*◌, ◌-◌, ◌/◌, ◌<◌, ◌≤◌}
use native.Mathlib.Nat.{not-suc-le-zero, le_of_suc-le-suc, zero-add, mul-add}
use native.Mathlib.Omega.{arith}
use lib.ListN.{length, get_or, take, drop, length-drop}
use lib.Seq.{drop-drop}
use lib.IntN.{pos}
use Rattle.lists.specs.Lists.{All}
use Rattle.lists.proofs.Lists.{all_take, all_drop}
use Rattle.records.specs.Records.{Codec, record_at, records_from}
use Rattle.records.specs.Words.{Byte, Word, unsigned, word_of, word_codec}
use Rattle.records.proofs.Records.{length_from}
use Rattle.records.proofs.Words.{signed_word, unsigned_range}
use Rattle.files.specs.Formats.{file_words, word_at}

module _ {W A : Type 0} (C : Codec W A) where
  pub at_from : (n : ℕ) (s : List W) (i j : ℕ) (z : A) → j < n → get_or (records_from C n s i) j z ≡ record_at C s (i + j)
  unfolding records_from
  at_from zero s i j z h = absurd (not-suc-le-zero h)
  at_from (suc n) s i zero z h = let e : i ≡ i + 0 = omega arith in ap (record_at C s) e
  at_from (suc n) s i (suc j) z h = let e : i + 1 + j ≡ i + suc j = omega arith in at_from n s (i + 1) j z (le_of_suc-le-suc h) ∙ ap (record_at C s) e

pub length_file : (bs : List ℕ) → length (file_words bs) ≡ length bs / 4
length_file bs = length_from word_codec (length bs / 4) bs 0

pub word_is : (bs : List ℕ) (i : ℕ) → i < length bs / 4 → word_at (file_words bs) i ≡ record_at word_codec bs i
word_is bs i h = at_from word_codec (length bs / 4) bs 0 i (pos 0) h ∙ ap (record_at word_codec bs) (zero-add i)

-- ---- the words of bytes are 32-bit words
byte_at : (r : List ℕ) (k : ℕ) → All Byte r → Byte (get_or r k 0)
byte_at [] k h = omega arith
byte_at (b ∷ r) zero h = h.0
byte_at (b ∷ r) (suc k) h = byte_at r k h.1

words_legal : (n : ℕ) (bs : List ℕ) (i : ℕ) → All Byte bs → All Word (records_from word_codec n bs i)
unfolding records_from record_at word_of
words_legal zero bs i h = tt
words_legal (suc n) bs i h =
    let r = take 4 (drop (4 * i) bs) in
    let g : All Byte r = all_take Byte 4 (drop (4 * i) bs) (all_drop Byte (4 * i) bs h) in (
      signed_word (unsigned (get_or r 0 0) (get_or r 1 0) (get_or r 2 0) (get_or r 3 0)) (unsigned_range (get_or r 0 0) (get_or r 1 0) (get_or r 2 0) (get_or r 3 0) (byte_at r 0 g) (byte_at r 1 g) (byte_at r 2 g) (byte_at r 3 g)),
      words_legal n bs (i + 1) h,
    )

pub file_words_legal : (bs : List ℕ) → All Byte bs → All Word (file_words bs)
file_words_legal bs h = words_legal (length bs / 4) bs 0 h

-- ---- records past the first k
module _ {W A : Type 0} (C : Codec W A) where
  at_drop : (k : ℕ) (s : List W) (i : ℕ) → record_at C (drop (C.width * k) s) i ≡ record_at C s (k + i)
  unfolding record_at
  at_drop k s i =
      ap (λ (t : List W). C.decode (take C.width t))
      (drop-drop (C.width * i) (C.width * k) s ∙ ap (λ (n : ℕ). drop n s) (sym (mul-add C.width k i)))

  pub from_drop : (n k : ℕ) (s : List W) (i : ℕ) → records_from C n (drop (C.width * k) s) i ≡ records_from C n s (k + i)
  unfolding records_from
  from_drop zero k s i = refl
  from_drop (suc n) k s i = let e : k + (i + 1) ≡ k + i + 1 = omega arith in rw (at_drop k s i, from_drop n k s (i + 1), e)

  pub drop_from : (k n : ℕ) (s : List W) (i : ℕ) → drop k (records_from C n s i) ≡ records_from C (n - k) s (i + k)
  unfolding records_from
  drop_from zero n s i = let e : n - 0 ≡ n = omega arith in let f : i + 0 ≡ i = omega arith in rw (e, f)
  drop_from (suc k) zero s i = let e : 0 - suc k ≡ 0 = omega arith in rw e
  drop_from (suc k) (suc n) s i =
      let e : suc n - suc k ≡ n - k = omega arith in
      let f : i + suc k ≡ i + 1 + k = omega arith in
      rw (e, f) (drop_from k n s (i + 1))

  pub take_from : (k n : ℕ) (s : List W) (i : ℕ) → k ≤ n → take k (records_from C n s i) ≡ records_from C k s i
  unfolding records_from
  take_from zero n s i h = refl
  take_from (suc k) zero s i h = absurd (not-suc-le-zero h)
  take_from (suc k) (suc n) s i h = ap (λ (rs : List A). record_at C s i ∷ rs) (take_from k n s (i + 1) (le_of_suc-le-suc h))

-- the words of a file's bytes past the first k words
pub body_words : (bs : List ℕ) (k : ℕ) → file_words (drop (4 * k) bs) ≡ drop k (file_words bs)
body_words bs k =
    let e : length (drop (4 * k) bs) / 4 ≡ length bs / 4 - k = omega (arith, length-drop (4 * k) bs) in
    ap (λ (n : ℕ). records_from word_codec n (drop (4 * k) bs) 0) e ∙ from_drop word_codec (length bs / 4 - k) k bs 0
    ∙ (let f : k + 0 ≡ 0 + k = omega arith in ap (records_from word_codec (length bs / 4 - k) bs) f) ∙ sym (drop_from word_codec k (length bs / 4) bs 0)
