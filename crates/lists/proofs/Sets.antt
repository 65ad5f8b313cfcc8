-- Neighbouring numbers of a list set one after the other: what is written is read, and what is before it stays.
use mathlib.Core.Path.{◌≡◌, refl, ◌∙◌, ap}
use mathlib.Core.List.{List, [], ◌∷◌}
use Prim.Native.Nat.{ℕ, zero, suc, ◌+◌, ◌<◌, ◌≤◌}
use native.Mathlib.Omega.{arith}
use lib.ListN.{length, get_or, set, length-set}
use lib.Seq.{sets, get_or-set_same, get_or-set_other}
use lib.IntN.{ℤ, pos}

pub sets_before : (vs s : List ℤ) (a j : ℕ) → j < a → get_or (sets s a vs) j (pos 0) ≡ get_or s j (pos 0)
sets_before [] s a j h = refl
sets_before (v ∷ vs) s a j h = sets_before vs (set s a v) (suc a) j (omega arith) ∙ get_or-set_other s a j v (pos 0) (λ e. absurd (omega (arith, e, h)))

pub sets_at : (vs s : List ℤ) (a k : ℕ) → a + length vs ≤ length s → k < length vs → get_or (sets s a vs) (a + k) (pos 0) ≡ get_or vs k (pos 0)
sets_at [] s a k h l = absurd (omega (arith, l))
sets_at (v ∷ vs) s a zero h l =
    let e : a + zero ≡ a = omega arith in
    ap (λ (n : ℕ). get_or (sets (set s a v) (suc a) vs) n (pos 0)) e ∙ sets_before vs (set s a v) (suc a) a (omega arith) ∙ get_or-set_same s a v (pos 0) (omega (arith, h))
sets_at (v ∷ vs) s a (suc k) h l =
    let e : a + suc k ≡ suc a + k = omega arith in
    ap (λ (n : ℕ). get_or (sets (set s a v) (suc a) vs) n (pos 0)) e ∙ sets_at vs (set s a v) (suc a) k (omega (arith, h, length-set s a v)) (omega (arith, l))
