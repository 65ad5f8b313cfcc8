-- Both ways between the tests of code, `lt_z`, `le_z` and `order_of`, and facts.
use mathlib.Core.Path.{◌≡◌, refl, sym, ◌∙◌, ap, ap₂, subst}
use mathlib.Core.Bool.{Bool, true, false}
use lib.Dec.{T_not, not_T}
use lib.IntN.{ℤ, pos}
use lib.Signed.{lt_z, le_z, ◌≤ℤ◌, ◌<ℤ◌, le_z_yes, lt_z_yes, lt_z_no, ≤ℤ_refl, clash_ℤ}
use Rattle.lists.proofs.Tests.{true_is, false_is, is_true, is_false}
use Rattle.integer.specs.Integer.{◌⊖◌, ⊝◌}
use Rattle.integer.specs.Compare.{HasOrder, order_by, order_of, OrderExact}
use Rattle.std.specs.declared.cmp.Ordering.{Ordering}
use Rattle.std.specs.declared.cmp.Ordering.TheVariants.{Less, Equal, Greater}
use Rattle.integer.proofs.Order.{antisymm, lt→le, lt_sub}
use Rattle.integer.proofs.Ring.{ring, ◌⊟◌, minus, ◌≗◌}

-- ---- a < b
pub lt_yes : (a b : ℤ) → lt_z a b ≡ true → a <ℤ b
lt_yes a b e = lt_z_yes (is_true e)

pub lt_no : (a b : ℤ) → lt_z a b ≡ false → b ≤ℤ a
lt_no a b e = lt_z_no (is_false e)

pub yes_lt : {a b : ℤ} → a <ℤ b → lt_z a b ≡ true
yes_lt h = true_is h.lt

pub no_lt : {a b : ℤ} → b ≤ℤ a → lt_z a b ≡ false
no_lt {a} {b} h = false_is (not_T (lt_z a b) (λ t. clash_ℤ (lt_z_yes t) h))

-- ---- a ≤ b
pub le_yes : (a b : ℤ) → le_z a b ≡ true → a ≤ℤ b
le_yes a b e = le_z_yes (is_true e)

pub le_no : (a b : ℤ) → le_z a b ≡ false → b <ℤ a
le_no a b e = go (lt_z b a) refl
  where
    go : (t : Bool) → lt_z b a ≡ t → b <ℤ a
    go true f = lt_yes b a f
    go false f = absurd (T_not (le_z a b) (is_false e) (lt_no b a f).le)

pub yes_le : {a b : ℤ} → a ≤ℤ b → le_z a b ≡ true
yes_le h = true_is h.le

pub no_le : {a b : ℤ} → b <ℤ a → le_z a b ≡ false
no_le {a} {b} h = false_is (not_T (le_z a b) (λ t. clash_ℤ h (le_z_yes t)))

-- ---- `order_of`, from the tests that a function made
pub order_less : (a b : ℤ) → lt_z a b ≡ true → order_of a b ≡ Less
unfolding order_of
order_less a b e = rw e

pub order_greater : (a b : ℤ) → lt_z a b ≡ false → lt_z b a ≡ true → order_of a b ≡ Greater
unfolding order_of
order_greater a b e f = rw (e, f)

pub order_equal : (a b : ℤ) → lt_z a b ≡ false → lt_z b a ≡ false → order_of a b ≡ Equal
unfolding order_of
order_equal a b e f = rw (e, f)

-- two pairs of equal difference stand alike
pub order_by_lem : (a b c d : ℤ) → a ⊖ b ≡ c ⊖ d → order_of a b ≡ order_of c d
unfolding order_of
order_by_lem a b c d e = ap₂ order_by (by b a d c (turn a b ∙ ap ⊝◌ e ∙ sym (turn c d))) (by a b c d e)
  where
    by : (a b c d : ℤ) → a ⊖ b ≡ c ⊖ d → lt_z b a ≡ lt_z d c
    by a b c d e = sym (lt_sub b a) ∙ ap (lt_z (pos 0)) e ∙ lt_sub d c

    turn : (a b : ℤ) → b ⊖ a ≡ ⊝ (a ⊖ b)
    turn a b = ring 2 (λ a b. b ⊟ a ≗ minus (a ⊟ b)) tt a b

-- and what its answer means
pub order-says : (a b : ℤ) → HasOrder (order_of a b) a b
unfolding order_of
order-says a b = go (lt_z a b) (lt_z b a) refl refl
  where
    go : (s t : Bool) → lt_z a b ≡ s → lt_z b a ≡ t → HasOrder (order_by s t) a b
    go true t e f = lt_yes a b e
    go false true e f = lt_yes b a f
    go false false e f = antisymm (lt_no b a f) (lt_no a b e)

pub says-order : (o : Ordering) (a b : ℤ) → HasOrder o a b → order_of a b ≡ o
says-order Less a b h = order_less a b (yes_lt h)
says-order Equal a b e = let h : a ≤ℤ b = subst (λ (x : ℤ). a ≤ℤ x) e (≤ℤ_refl a) in let k : b ≤ℤ a = subst (λ (x : ℤ). x ≤ℤ a) e (≤ℤ_refl a) in order_equal a b (no_lt k) (no_lt h)
says-order Greater a b h = order_greater a b (no_lt (lt→le h)) (yes_lt h)

pub order_exact : OrderExact
order_exact o a b = ((λ e. subst (λ (p : Ordering). HasOrder p a b) e (order-says a b)), says-order o a b)
