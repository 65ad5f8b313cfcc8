-- What the normaliser and `omega` are held to: an identity of degree 5 in 16 variables, and linear goals of each kind.
use mathlib.Core.Path.{◌≡◌}
use Prim.Native.Nat.{◌≤◌}
use lib.IntN.{ℤ, pos, nat_abs}
use lib.Signed.{◌≤ℤ◌, ◌<ℤ◌}
use Rattle.integer.specs.Integer.{◌⊕◌, ◌⊖◌, ◌⊗◌}
use Rattle.integer.proofs.Ring.{ring, con, ◌⊞◌, ◌⊟◌, ◌⊠◌, ◌≗◌}
use Rattle.integer.proofs.Linear.{zarith, sum, difference, parts, one_part, lin}

-- The line through (x₁, y₁) and (x₂, y₂) as dx, dy and c with dx·y = dy·x + c on it, over ℤ and over expressions alike.
record Line (X : Type 0) : Type 0 where
  dx : X
  dy : X
  c : X

module _ {X : Type 0} (◌+◌ ◌-◌ ◌*◌ : X → X → X) where
  abbrev line : X → X → X → X → Line X
  line x₁ y₁ x₂ y₂ = record { dx = ◌-◌ x₂ x₁; dy = ◌-◌ y₂ y₁; c = ◌-◌ (◌*◌ y₁ x₂) (◌*◌ y₂ x₁) }

  abbrev minor : X → X → X → X → X
  minor a b c d = ◌-◌ (◌*◌ a d) (◌*◌ b c)

  abbrev triple : Line X → Line X → Line X → X
  triple l m k =
      ◌+◌ (◌+◌ (◌*◌ k.dx (minor l.dy l.c m.dy m.c)) (◌*◌ k.dy (minor l.c l.dx m.c m.dx))) (◌*◌ k.c (minor l.dx l.dy m.dx m.dy))

  -- the positions of l × m and k × j, compared by cross-multiplication
  abbrev left : Line X → Line X → Line X → Line X → X
  left l m k j = ◌-◌ (◌*◌ (minor l.c l.dx m.c m.dx) (minor k.dx k.dy j.dx j.dy)) (◌*◌ (minor k.c k.dx j.c j.dx) (minor l.dx l.dy m.dx m.dy))

  -- the same by triple products
  abbrev right : Line X → Line X → Line X → Line X → X
  right l m k j = ◌-◌ (◌*◌ k.dx (triple l m j)) (◌*◌ j.dx (triple l m k))

degree_five : (x₁ y₁ x₂ y₂ x₃ y₃ x₄ y₄ x₅ y₅ x₆ y₆ x₇ y₇ x₈ y₈ : ℤ)
    → left ◌⊕◌ ◌⊖◌ ◌⊗◌ (line ◌⊕◌ ◌⊖◌ ◌⊗◌ x₁ y₁ x₂ y₂) (line ◌⊕◌ ◌⊖◌ ◌⊗◌ x₃ y₃ x₄ y₄) (line ◌⊕◌ ◌⊖◌ ◌⊗◌ x₅ y₅ x₆ y₆) (line ◌⊕◌ ◌⊖◌ ◌⊗◌ x₇ y₇ x₈ y₈)
    ≡ right ◌⊕◌ ◌⊖◌ ◌⊗◌ (line ◌⊕◌ ◌⊖◌ ◌⊗◌ x₁ y₁ x₂ y₂) (line ◌⊕◌ ◌⊖◌ ◌⊗◌ x₃ y₃ x₄ y₄) (line ◌⊕◌ ◌⊖◌ ◌⊗◌ x₅ y₅ x₆ y₆) (line ◌⊕◌ ◌⊖◌ ◌⊗◌ x₇ y₇ x₈ y₈)
degree_five =
    ring 16
    (λ x₁ y₁ x₂ y₂ x₃ y₃ x₄ y₄ x₅ y₅ x₆ y₆ x₇ y₇ x₈ y₈.
    left ◌⊞◌ ◌⊟◌ ◌⊠◌ (line ◌⊞◌ ◌⊟◌ ◌⊠◌ x₁ y₁ x₂ y₂) (line ◌⊞◌ ◌⊟◌ ◌⊠◌ x₃ y₃ x₄ y₄) (line ◌⊞◌ ◌⊟◌ ◌⊠◌ x₅ y₅ x₆ y₆) (line ◌⊞◌ ◌⊟◌ ◌⊠◌ x₇ y₇ x₈ y₈)
    ≗ right ◌⊞◌ ◌⊟◌ ◌⊠◌ (line ◌⊞◌ ◌⊟◌ ◌⊠◌ x₁ y₁ x₂ y₂) (line ◌⊞◌ ◌⊟◌ ◌⊠◌ x₃ y₃ x₄ y₄) (line ◌⊞◌ ◌⊟◌ ◌⊠◌ x₅ y₅ x₆ y₆) (line ◌⊞◌ ◌⊟◌ ◌⊠◌ x₇ y₇ x₈ y₈))
    tt

-- ---- `omega` over ℤ
chain : (a b c : ℤ) → a ≤ℤ b → b <ℤ c → a <ℤ c
chain a b c h k = omega zarith

listed : (a b c : ℤ) → a ⊕ b ≤ℤ c → pos 3 ≤ℤ b → a <ℤ c ⊖ pos 1
listed a b c h k = omega (zarith, sum a b, difference c (pos 1))

equation : (a b c : ℤ) → a ≡ b ⊕ pos 2 → b ≤ℤ c → c ≤ℤ b → a ≡ c ⊕ pos 2
equation a b c h k l = omega (zarith, sum b (pos 2), sum c (pos 2))

from_magnitudes : (a b : ℤ) → nat_abs a ≤ 10 → nat_abs b ≤ 20 → a ⊖ b ≤ℤ pos 30
from_magnitudes a b h k = omega (zarith, parts a, parts b, difference a b)

to_magnitude : (a : ℤ) → pos 0 ≤ℤ a → a <ℤ pos 5 → nat_abs a ≤ 4
to_magnitude a h k = omega (zarith, parts a, one_part a)

expression : (a b c : ℤ) → a ⊕ b ⊖ pos 2 ⊗ c ≤ℤ pos 7 → c ≤ℤ pos 3 → pos 4 ≤ℤ b → a ≤ℤ pos 9
expression a b c h k l = omega (zarith, lin 3 (λ a b c. a ⊞ b ⊟ con (pos 2) ⊠ c) a b c)
