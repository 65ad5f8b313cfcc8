-- Different answers are never packed into one number: each can be told from every other.
use mathlib.Core.Path.{◌≡◌, refl, sym, ap, ap₂}
use Prim.Native.Nat.{ℕ, ◌+◌, ◌^◌, ◌<◌}
use native.Mathlib.Omega.{arith}
use Rattle.files.specs.Outcomes.{refused, done}
use Rattle.calls.specs.Components as connected
use Rattle.calls.specs.Answers.{refused_equality, same, differs, refused_point, yes, no}
use Rattle.calls.specs.Packed.{refusal, success}
use Rattle.calls.specs.PackedApart.{PackedApart, PackedEqualityApart, PackedPointApart, PackedCountApart}

-- ---- the bits, in two halves of which the low one is below 2³²
-- equal numbers have equal halves
halves : (m p n q : ℕ) → p < 2 ^ 32 → q < 2 ^ 32 → success m p ≡ success n q → (m ≡ n) × (p ≡ q)
halves m p n q hp hq e = (omega arith, omega arith)

module _ {A : Type 0} (f : ℕ → ℕ → A) where
  one_success : (m p n q : ℕ) → p < 2 ^ 32 → q < 2 ^ 32 → success m p ≡ success n q → f m p ≡ f n q
  one_success m p n q hp hq e = let h = halves m p n q hp hq e in ap₂ f h.0 h.1

  one_refusal : (m p n q : ℕ) → p < 2 ^ 32 → q < 2 ^ 32 → refusal m p ≡ refusal n q → f m p ≡ f n q
  one_refusal m p n q hp hq e = one_success m p n q hp hq (omega arith)

-- a success is below bit 63
kinds : {X : Type 0} (m p n q : ℕ) → n < 2 ^ 31 → q < 2 ^ 32 → refusal m p ≡ success n q → X
kinds m p n q hn hq e = absurd (omega arith)

-- ---- the four packings
pub packed_apart : PackedApart
packed_apart (refused m p) (refused n q) h k e = one_refusal refused m p n q (omega arith) (omega arith) e
packed_apart (refused m p) (done n q) h k e = kinds m p n q (omega arith) (omega arith) e
packed_apart (done m p) (refused n q) h k e = kinds n q m p (omega arith) (omega arith) (sym e)
packed_apart (done m p) (done n q) h k e = one_success done m p n q (omega arith) (omega arith) e

pub packed_equality_apart : PackedEqualityApart
packed_equality_apart (refused_equality m p) (refused_equality n q) h k e = one_refusal refused_equality m p n q (omega arith) (omega arith) e
packed_equality_apart (refused_equality m p) (same q) h k e = kinds m p 0 q (omega arith) (omega arith) e
packed_equality_apart (refused_equality m p) (differs n q) h k e = kinds m p (n + 1) q (omega arith) (omega arith) e
packed_equality_apart (same p) (refused_equality n q) h k e = kinds n q 0 p (omega arith) (omega arith) (sym e)
packed_equality_apart (same p) (same q) h k e = ap same (halves 0 p 0 q (omega arith) (omega arith) e).1
packed_equality_apart (same p) (differs n q) h k e = absurd (omega (arith, (halves 0 p (n + 1) q (omega arith) (omega arith) e).0))
packed_equality_apart (differs m p) (refused_equality n q) h k e = kinds n q (m + 1) p (omega arith) (omega arith) (sym e)
packed_equality_apart (differs m p) (same q) h k e = absurd (omega (arith, (halves (m + 1) p 0 q (omega arith) (omega arith) e).0))
packed_equality_apart (differs m p) (differs n q) h k e =
    let s = halves (m + 1) p (n + 1) q (omega arith) (omega arith) e in
    let operand : m ≡ n = omega (arith, s.0) in
    ap₂ differs operand s.1

pub packed-point_apart : PackedPointApart
packed-point_apart (refused_point m p) (refused_point n q) h k e = one_refusal refused_point m p n q (omega arith) (omega arith) e
packed-point_apart (refused_point m p) yes h k e = kinds m p 1 0 (omega arith) (omega arith) e
packed-point_apart (refused_point m p) no h k e = kinds m p 0 0 (omega arith) (omega arith) e
packed-point_apart yes (refused_point n q) h k e = kinds n q 1 0 (omega arith) (omega arith) (sym e)
packed-point_apart yes yes h k e = refl
packed-point_apart yes no h k e = absurd (omega arith)
packed-point_apart no (refused_point n q) h k e = kinds n q 0 0 (omega arith) (omega arith) (sym e)
packed-point_apart no yes h k e = absurd (omega arith)
packed-point_apart no no h k e = refl

pub packed-count_apart : PackedCountApart
packed-count_apart (connected.refused_components m p) (connected.refused_components n q) h k e = one_refusal connected.refused_components m p n q (omega arith) (omega arith) e
packed-count_apart (connected.refused_components m p) (connected.counted n) h k e = kinds m p n 0 (omega arith) (omega arith) e
packed-count_apart (connected.counted m) (connected.refused_components n q) h k e = kinds n q m 0 (omega arith) (omega arith) (sym e)
packed-count_apart (connected.counted m) (connected.counted n) h k e = one_success (λ components _. connected.counted components) m 0 n 0 (omega arith) (omega arith) e
