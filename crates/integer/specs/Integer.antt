-- The whole numbers ℤ with their sum, difference, product and negation, and the ranges of the machine's signed words.
-- Each operator is lib.IntN's under a name that stays shut, so that goals and messages show it as written.
use Rattle.std.specs.Prelude.{ℕ, ℤ, neg_ℤ, ◌+ℤ◌, ◌-ℤ◌, ◌*ℤ◌}

infixl 65 ◌⊕◌ ◌⊖◌
infixl 70 ◌⊗◌
infix 75 ⊝◌
unfoldable pub ◌⊕◌ : ℤ → ℤ → ℤ
a ⊕ b = a +ℤ b

unfoldable pub ◌⊖◌ : ℤ → ℤ → ℤ
a ⊖ b = a -ℤ b

unfoldable pub ◌⊗◌ : ℤ → ℤ → ℤ
a ⊗ b = a *ℤ b

unfoldable pub ⊝◌ : ℤ → ℤ
⊝ a = neg_ℤ a

-- 2³¹ and 2⁶³: a number of lesser magnitude is a signed word of 32 or 64 bits
abbrev pub limit32 : ℕ
limit32 = 2147483648

abbrev pub limit64 : ℕ
limit64 = 9223372036854775808
