-- Boxes passed over by a test.
use mathlib.Core.Path.{◌≡◌, refl, subst}
use mathlib.Core.Bool.{Bool, true, false}
use mathlib.Core.List.{List}
use Prim.Native.Nat.{ℕ, ◌+◌, ◌<◌, ◌≤◌}
use native.Mathlib.Omega.{arith}
use lib.Dec.{ltb, ltb→lt, nltb→le}
use lib.IntN.{ℤ}
use Rattle.lists.proofs.Tests.{is_true, is_false}
use Rattle.boxes.specs.declared.Box.{Box}
use Rattle.boxes_code.specs.Code.{box_at, Skipped, NextBox}

module _ {apart : Box → Box → Bool} {e : Box} {d : List ℤ} {j i : ℕ} where
  pub skip_start : j ≤ i → Skipped apart e d j i j
  skip_start l = record { from = omega arith; upto = l; passed = λ k m n. absurd (omega (arith, m, n)) }

  pub skip_more : {r : ℕ} → Skipped apart e d j i r → r < i → apart e (box_at d r) ≡ true → Skipped apart e d j i (r + 1)
  skip_more {r} h l g = record { from = omega (arith, h.from); upto = omega (arith, l); passed = λ k m n. go k m n (ltb k r) refl }
    where
      go : (k : ℕ) → j ≤ k → k < r + 1 → (t : Bool) → ltb k r ≡ t → apart e (box_at d k) ≡ true
      go k m n true z = h.passed k m (ltb→lt k r (is_true z))
      go k m n false z = let o = nltb→le k r (is_false z) in subst (λ (x : ℕ). apart e (box_at d x) ≡ true) (omega (arith, n, o)) g

  pub skip_stop : {r : ℕ} → Skipped apart e d j i r → i ≤ r → NextBox apart e d j i i
  skip_stop h l = record { skipped = subst (Skipped apart e d j i) (omega (arith, h.upto, l)) h; found = λ k. absurd (omega (arith, k)) }
