-- Fractions n/d. What is said of them holds where the denominators are positive.
use Rattle.std.specs.Prelude.{Bool, cond, ℤ, pos, ◌<ℤ◌}
use Rattle.std.specs.Int.Signed.{lt_z}
use Rattle.std.specs.declared.cmp.Ordering.{Ordering}
use Rattle.integer.specs.Integer.{◌⊕◌, ◌⊖◌, ◌⊗◌, ⊝◌}
use Rattle.integer.specs.Compare.{order_of}

pub record Fraction : Type 0 where
  pub num : ℤ
  pub den : ℤ

abbrev pub Proper : Fraction → Type 0
Proper p = pos 0 <ℤ p.den

-- p < q, by cross-multiplication
unfoldable pub before : Fraction → Fraction → Bool
before p q = lt_z (p.num ⊗ q.den) (q.num ⊗ p.den)

-- which of p < q, p = q and p > q holds
unfoldable pub order : Fraction → Fraction → Ordering
order p q = order_of (p.num ⊗ q.den) (q.num ⊗ p.den)

-- (n + m)/(d + e), which lies between n/d and m/e
unfoldable pub mediant : Fraction → Fraction → Fraction
mediant p q = record { num = p.num ⊕ q.num; den = p.den ⊕ q.den }

-- the linear function a·x − b at x = n/d, times d: its sign is the function's
unfoldable pub linear : ℤ → ℤ → Fraction → ℤ
linear a b x = a ⊗ x.num ⊖ b ⊗ x.den

-- b/a with a positive denominator, where a is not 0
unfoldable pub root : ℤ → ℤ → Fraction
root a b = cond (lt_z (pos 0) a) (record { num = b; den = a }) (record { num = ⊝ b; den = ⊝ a })
