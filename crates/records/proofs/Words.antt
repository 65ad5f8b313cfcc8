-- Four bytes and a signed word, there and back, for every byte and every word.
use mathlib.Core.Path.{◌≡◌, refl, sym, ap, ◌∙◌}
use mathlib.Core.List.{List, [], ◌∷◌, append_assoc}
use mathlib.Core.Bool.{Bool, true, false}
use mathlib.Core.Logic.{◌⊎◌, inl, inr}
use Prim.Native.Nat.{ℕ, zero, suc, ◌+◌, ◌*◌, ◌-◌, ◌/◌, ◌%◌, ◌<◌, ◌≤◌}
use native.Mathlib.Omega.{arith}
use native.Mathlib.Numerals.{add-one, add-two, add-three}
use native.Mathlib.Nat.{zero-add, div-div-eq-div-mul, div-add-mod'}
use lib.ListN.{length, get_or, set, take, drop}
use lib.Seq.{get_or-take, get_or-drop, sets-eq}
use lib.IntN.{ℤ, pos, negsuc, ◌-ℤ◌}
use lib.Dec.{ltb}
use borrow.Author.Tests.{lt-ltb, le-ltb, ltb-true, ltb-false}
use Rattle.lists.specs.Lists.{All}
use Rattle.records.specs.Records.{record_at, put_record}
use Rattle.records.specs.Words.{Byte, Word, unsigned, signed, pattern, word_of, bytes_of, word_codec, WordsFaithful}

-- ---- −1 − z, by which a word's bits are turned over
pub flip_natural : (n : ℕ) → negsuc 0 -ℤ pos n ≡ negsuc n
flip_natural zero = refl
flip_natural (suc n) = ap (λ (k : ℕ). negsuc (suc k)) (zero-add n)

pub flip_negative : (n : ℕ) → negsuc 0 -ℤ negsuc n ≡ pos n
flip_negative n = let e : suc n - 1 ≡ n = omega arith in rw (le-ltb (suc n) 1 (omega arith), e)

-- ---- two's complement
pub signed_low : (n : ℕ) → n < 2147483648 → signed n ≡ pos n
unfolding signed
signed_low n h = rw (lt-ltb _ _ h)

pub signed_high : (n : ℕ) → 2147483648 ≤ n → signed n ≡ negsuc (4294967295 - n)
unfolding signed
signed_high n h = rw (le-ltb _ _ h)

pub signed-pattern : (z : ℤ) → Word z → signed (pattern z) ≡ z
signed-pattern (pos n) h = signed_low n h
signed-pattern (negsuc n) h = let e : 4294967295 - (4294967295 - n) ≡ n = omega arith in signed_high (4294967295 - n) (omega arith) ∙ ap negsuc e

pub pattern_range : (z : ℤ) → Word z → pattern z < 4294967296
pattern_range (pos n) h = omega arith
pattern_range (negsuc n) h = omega arith

low_or_high : (n : ℕ) → (n < 2147483648) ⊎ (2147483648 ≤ n)
low_or_high n = go (ltb n 2147483648) refl
  where
    go : (t : Bool) → ltb n 2147483648 ≡ t → (n < 2147483648) ⊎ (2147483648 ≤ n)
    go true e = inl (ltb-true _ _ e)
    go false e = inr (ltb-false _ _ e)

pub pattern-signed : (n : ℕ) → n < 4294967296 → pattern (signed n) ≡ n
pattern-signed n h = elim (low_or_high n) [ inl k ↦ ap pattern (signed_low n k) | inr k ↦ ap pattern (signed_high n k) ∙ (let e : 4294967295 - (4294967295 - n) ≡ n = omega arith in e) ]

pub signed_word : (n : ℕ) → n < 4294967296 → Word (signed n)
signed_word n h = elim (low_or_high n) [ inl k ↦ rw (signed_low n k) k | inr k ↦ rw (signed_high n k) (omega arith) ]

-- ---- four bytes
pub unsigned_range : (b₀ b₁ b₂ b₃ : ℕ) → Byte b₀ → Byte b₁ → Byte b₂ → Byte b₃ → unsigned b₀ b₁ b₂ b₃ < 4294967296
unfolding unsigned
unsigned_range b₀ b₁ b₂ b₃ h₀ h₁ h₂ h₃ = omega arith

pub unsigned-digits : (p : ℕ) → p < 4294967296 → unsigned (p % 256) (p / 256 % 256) (p / 65536 % 256) (p / 16777216 % 256) ≡ p
unfolding unsigned
unsigned-digits p h =
    let e : p / 256 / 256 ≡ p / 65536 = div-div-eq-div-mul p 256 256 in
    let f : p / 65536 / 256 ≡ p / 16777216 = div-div-eq-div-mul p 65536 256 in
    let g : p / 16777216 % 256 ≡ p / 16777216 = omega arith in
    let d : p / 65536 * 256 + p / 256 % 256 ≡ p / 256 = rw e at (div-add-mod' (p / 256) 256) in
    let c : p / 16777216 * 256 + p / 65536 % 256 ≡ p / 65536 = rw f at (div-add-mod' (p / 65536) 256) in
    join (p % 256) (p / 256 % 256) (p / 65536 % 256) (p / 16777216 % 256) p (p / 256) (p / 65536) (div-add-mod' p 256) d (rw (← g) at c)
  where
    join : (a b c d p q r : ℕ) → q * 256 + a ≡ p → r * 256 + b ≡ q → d * 256 + c ≡ r → a + 256 * b + 65536 * c + 16777216 * d ≡ p
    join a b c d p q r h k l = omega arith

module _ (b₀ b₁ b₂ b₃ : ℕ) (h₀ : Byte b₀) (h₁ : Byte b₁) (h₂ : Byte b₂) (h₃ : Byte b₃) where
  digit₀ : unsigned b₀ b₁ b₂ b₃ % 256 ≡ b₀
  unfolding unsigned
  digit₀ = omega arith

  digit₁ : unsigned b₀ b₁ b₂ b₃ / 256 % 256 ≡ b₁
  unfolding unsigned
  digit₁ = omega arith

  digit₂ : unsigned b₀ b₁ b₂ b₃ / 65536 % 256 ≡ b₂
  unfolding unsigned
  digit₂ = omega arith

  digit₃ : unsigned b₀ b₁ b₂ b₃ / 16777216 % 256 ≡ b₃
  unfolding unsigned
  digit₃ = omega arith

bytes_back : (r : List ℕ) → length r ≡ 4 → All Byte r → bytes_of (word_of r) ≡ r
unfolding bytes_of word_of
bytes_back [] h g = absurd (let z : ⊥ = omega arith in z)
bytes_back (b₀ ∷ []) h g = absurd (let z : ⊥ = omega arith in z)
bytes_back (b₀ ∷ b₁ ∷ []) h g = absurd (let z : ⊥ = omega arith in z)
bytes_back (b₀ ∷ b₁ ∷ b₂ ∷ []) h g = absurd (let z : ⊥ = omega arith in z)
bytes_back (b₀ ∷ b₁ ∷ b₂ ∷ b₃ ∷ []) h g =
    rw (
      pattern-signed (unsigned b₀ b₁ b₂ b₃) (unsigned_range b₀ b₁ b₂ b₃ g.0 g.1.0 g.1.1.0 g.1.1.1.0),
      digit₀ b₀ b₁ b₂ b₃ g.0 g.1.0 g.1.1.0 g.1.1.1.0,
      digit₁ b₀ b₁ b₂ b₃ g.0 g.1.0 g.1.1.0 g.1.1.1.0,
      digit₂ b₀ b₁ b₂ b₃ g.0 g.1.0 g.1.1.0 g.1.1.1.0,
      digit₃ b₀ b₁ b₂ b₃ g.0 g.1.0 g.1.1.0 g.1.1.1.0,
    )
bytes_back (b₀ ∷ b₁ ∷ b₂ ∷ b₃ ∷ b₄ ∷ r) h g = absurd (let z : ⊥ = omega arith in z)

pub words_faithful : WordsFaithful
unfolding bytes_of word_of
words_faithful =
    record {
      readable = record {
        some = omega arith;
        encode_length = λ z. refl;
        decode_encode = λ z h. ap signed (unsigned-digits (pattern z) (pattern_range z h)) ∙ signed-pattern z h;
      };
      encode_decode = bytes_back;
    }

-- ---- a word of a slice of bytes, byte by byte
module _ (s : List ℕ) (i : ℕ) where
  byte_at : (k : ℕ) → k < 4 → get_or s (4 * i + k) 0 ≡ get_or (take 4 (drop (4 * i) s)) k 0
  byte_at k h = sym (get_or-take 4 (drop (4 * i) s) k 0 h ∙ get_or-drop (4 * i) s k 0)

  pub word_at : signed (unsigned (get_or s (4 * i) 0) (get_or s (4 * i + 1) 0) (get_or s (4 * i + 2) 0) (get_or s (4 * i + 3) 0)) ≡ record_at word_codec s i
  unfolding record_at word_of
  word_at =
      let e : 4 * i ≡ 4 * i + 0 = omega arith in
      let b₀ : get_or s (4 * i) 0 ≡ get_or (take 4 (drop (4 * i) s)) 0 0 = ap (λ (k : ℕ). get_or s k 0) e ∙ byte_at 0 (omega arith) in
      let b₁ = byte_at 1 (omega arith) in
      let b₂ = byte_at 2 (omega arith) in
      let b₃ = byte_at 3 (omega arith) in
      λ j. signed (unsigned (b₀ j) (b₁ j) (b₂ j) (b₃ j))

  pub word_put : (x : ℤ) (p : ℕ) → p ≡ pattern x → 4 * i + 4 ≤ length s
      → set (set (set (set s (4 * i) (p % 256)) (4 * i + 1) (p / 256 % 256)) (4 * i + 2) (p / 65536 % 256)) (4 * i + 3) (p / 16777216 % 256) ≡ put_record word_codec s i x
  unfolding bytes_of
  word_put x p e h = rw (e, add-one, add-two, add-three) (sets-eq (bytes_of x) s (4 * i) h ∙ append_assoc (take (4 * i) s) (bytes_of x) (drop (4 * i + 4) s))
