-- The bits of sets.
use mathlib.Core.Path.{◌≡◌, refl, sym, ap, ◌∙◌}
use mathlib.Core.Bool.{◌||◌}
use Prim.Native.Nat.{ℕ, zero, suc, ◌+◌, ◌*◌, ◌/◌, ◌%◌, ◌^◌, ◌<◌}
use native.Mathlib.Nat.{mod-lt, mod-eq_of_lt, div-eq_of_lt, div-one, div-add-mod'}
use native.Mathlib.Omega.{arith}
use lib.Bits.{bit_or, or_shr, or_mod, or_lt, shifted_half, shifted_even}
use lib.Pow.{pow-lt, shr-shr}
use lib.Dec.{eqb, eqb-suc-suc, eqb-zero-suc, eqb-suc-zero}
use lib.IntN.{ℤ}
use Rattle.records.specs.Words.{Word, signed, pattern}
use Rattle.records.proofs.Words.{signed-pattern, pattern-signed, pattern_range}
use Rattle.sources.specs.Sets.{mask, has, single, joined}
use Rattle.sources.specs.Statements.{MaskRange, MaskWord, WordMask, HasJoined, HasSingle, HasNone, SameSet}

-- ---- words and masks
pub mask_range : MaskRange
unfolding mask
mask_range z = mod-lt (pattern z) (omega arith)

-- of a word the mask is its bits, as the function `pattern` gives them
pub mask-pattern : (z : ℤ) → Word z → mask z ≡ pattern z
unfolding mask
mask-pattern z h = mod-eq_of_lt (pattern_range z h)

pub mask_word : MaskWord
mask_word z h = ap signed (mask-pattern z h) ∙ signed-pattern z h

pub word_mask : WordMask
unfolding mask
word_mask m h = ap (λ (n : ℕ). n % 4294967296) (pattern-signed m h) ∙ mod-eq_of_lt h

-- ---- joined
or_digit : (p q : ℕ) → p < 2 → q < 2 → eqb (bit_or p q) 1 ≡ eqb p 1 || eqb q 1
or_digit zero q h k = refl
or_digit (suc zero) zero h k = refl
or_digit (suc zero) (suc zero) h k = refl
or_digit (suc zero) (suc (suc q)) h k = absurd (let z : ⊥ = omega arith in z)
or_digit (suc (suc p)) q h k = absurd (let z : ⊥ = omega arith in z)

pub joined-mask : (y z : ℤ) → mask (joined y z) ≡ bit_or (mask y) (mask z)
unfolding joined
joined-mask y z = word_mask (bit_or (mask y) (mask z)) (or_lt 32 (mask y) (mask z) (mask_range y) (mask_range z))

pub has-joined : HasJoined
unfolding has
has-joined k y z =
    ap (λ (m : ℕ). eqb (m / 2 ^ k % 2) 1) (joined-mask y z)
    ∙ ap (λ (m : ℕ). eqb (m % 2) 1) (or_shr (mask y) (mask z) k)
    ∙ ap (λ (m : ℕ). eqb m 1) (or_mod (mask y / 2 ^ k) (mask z / 2 ^ k) 1)
    ∙ or_digit (mask y / 2 ^ k % 2) (mask z / 2 ^ k % 2) (mod-lt (mask y / 2 ^ k) (omega arith)) (mod-lt (mask z / 2 ^ k) (omega arith))

-- ---- one bit
power_digit : (j k : ℕ) → eqb (2 ^ k / 2 ^ j % 2) 1 ≡ eqb j k
power_digit zero zero = refl
power_digit zero (suc k) =
    ap (λ (n : ℕ). eqb (n % 2) 1) (div-one (2 ^ suc k) ∙ (let e : 2 ^ suc k ≡ 1 * 2 ^ suc k = omega arith in e)) ∙ ap (λ (n : ℕ). eqb n 1) (shifted_even 1 k)
    ∙ sym (eqb-zero-suc k)
power_digit (suc j) zero = ap (λ (n : ℕ). eqb (n % 2) 1) (div-eq_of_lt (pow-lt {i = 0} {j = suc j} (omega arith))) ∙ sym (eqb-suc-zero j)
power_digit (suc j) (suc k) =
    ap (λ (n : ℕ). eqb (n % 2) 1) halve ∙ power_digit j k ∙ sym (eqb-suc-suc j k)
  where
    halve : 2 ^ suc k / 2 ^ suc j ≡ 2 ^ k / 2 ^ j
    halve =
        let e : 1 + j ≡ suc j = omega arith in
        let f : 2 ^ suc k ≡ 1 * 2 ^ suc k = omega arith in
        let g : 1 * 2 ^ k ≡ 2 ^ k = omega arith in
        ap (λ (n : ℕ). 2 ^ suc k / 2 ^ n) (sym e) ∙ sym (shr-shr (2 ^ suc k) 1 j) ∙ ap (λ (n : ℕ). n / 2 / 2 ^ j) f ∙ ap (λ (n : ℕ). n / 2 ^ j) (shifted_half 1 k ∙ g)

pub single-mask : (k : ℕ) → k < 32 → mask (single k) ≡ 2 ^ k
unfolding single
single-mask k h = word_mask (2 ^ k) (pow-lt h)

pub has-single : HasSingle
unfolding has
has-single j k h = ap (λ (m : ℕ). eqb (m / 2 ^ j % 2) 1) (single-mask k h) ∙ power_digit j k

pub has_none : HasNone
unfolding has mask
has_none k = ap (λ (n : ℕ). eqb (n % 2) 1) (div-eq_of_lt (pow_lt_zero k))
  where
    pow_lt_zero : (k : ℕ) → 0 < 2 ^ k
    pow_lt_zero zero = omega arith
    pow_lt_zero (suc k) = omega (arith, pow_lt_zero k)

-- ---- a set is its bits
digit_of : (p q : ℕ) → p < 2 → q < 2 → eqb p 1 ≡ eqb q 1 → p ≡ q
digit_of zero zero h k e = refl
digit_of zero (suc zero) h k e = absurd (let z : ◌≡◌ {A = ℕ} 0 1 = cc in omega arith)
digit_of (suc zero) zero h k e = absurd (let z : ◌≡◌ {A = ℕ} 0 1 = cc in omega arith)
digit_of (suc zero) (suc zero) h k e = refl
digit_of zero (suc (suc q)) h k e = absurd (let z : ⊥ = omega arith in z)
digit_of (suc zero) (suc (suc q)) h k e = absurd (let z : ⊥ = omega arith in z)
digit_of (suc (suc p)) q h k e = absurd (let z : ⊥ = omega arith in z)

same_digits : (w m n : ℕ) → m < 2 ^ w → n < 2 ^ w → ((k : ℕ) → k < w → m / 2 ^ k % 2 ≡ n / 2 ^ k % 2) → m ≡ n
same_digits zero m n h k f = omega arith
same_digits (suc w) m n h k f =
    let e = same_digits w (m / 2) (n / 2) (half m h) (half n k) (λ i l. shift m i ∙ f (suc i) (omega arith) ∙ sym (shift n i)) in
    let g : m % 2 ≡ n % 2 = sym (ap (λ (x : ℕ). x % 2) (div-one m)) ∙ f 0 (omega arith) ∙ ap (λ (x : ℕ). x % 2) (div-one n) in
    sym (div-add-mod' m 2) ∙ (λ i. e i * 2 + g i) ∙ div-add-mod' n 2
  where
    shift : (m i : ℕ) → m / 2 / 2 ^ i % 2 ≡ m / 2 ^ suc i % 2
    shift m i = let e : 1 + i ≡ suc i = omega arith in ap (λ (n : ℕ). n % 2) (shr-shr m 1 i ∙ ap (λ (n : ℕ). m / 2 ^ n) e)

    half : (m : ℕ) → m < 2 ^ suc w → m / 2 < 2 ^ w
    half m h = omega (arith, div-add-mod' m 2)

pub same_set : SameSet
unfolding has
same_set y z hy hz f =
    let e = same_digits 32 (mask y) (mask z) (mask_range y) (mask_range z)
    (λ k l. digit_of (mask y / 2 ^ k % 2) (mask z / 2 ^ k % 2) (mod-lt (mask y / 2 ^ k) (omega arith)) (mod-lt (mask z / 2 ^ k) (omega arith)) (f k l)) in
    sym (mask_word y hy) ∙ ap signed e ∙ mask_word z hz

-- ---- for the functions
-- a shift and an or of machine words
pub joined-pattern : (y z : ℤ) → Word y → Word z → signed (bit_or (pattern y) (pattern z)) ≡ joined y z
unfolding joined
joined-pattern y z hy hz = let p = sym (mask-pattern y hy) in let q = sym (mask-pattern z hz) in (λ i. signed (bit_or (p i) (q i)))

pub single_shift : (k : ℕ) → k < 32 → signed ((1 * 2 ^ k) % 4294967296) ≡ single k
unfolding single
single_shift k h = let e : 1 * 2 ^ k ≡ 2 ^ k = omega arith in ap (λ (n : ℕ). signed (n % 4294967296)) e ∙ ap signed (mod-eq_of_lt (pow-lt h))
