-- The rule of the table of the point question, from one test over the whole table.
use mathlib.Core.Path.{◌≡◌, refl, sym, subst, ap}
use mathlib.Core.Bool.{Bool, true, false, beq}
use mathlib.Core.List.{List, [], ◌∷◌}
use mathlib.Core.Logic.{◌↔◌}
use Prim.Native.Nat.{ℕ, zero, suc, ◌<◌}
use native.Mathlib.Nat.{le_of_suc-le-suc, not-suc-le-zero}
use native.Mathlib.Omega.{arith}
use mir.Facts.{and_yes, yes_and}
use lib.Dec.{T}
use lib.ListN.{length, get_or}
use Rattle.lists.proofs.Tests.{true_is}
use Rattle.boolean.specs.Operations.{codes}
use Rattle.chains.specs.Chains.{Told, evaluate}
use Rattle.chains.specs.Memberships.{memberships, membership_at, table_entry, Adds, says_for, all_below, is_entry, AddsExact, AnswerTableExact}

-- ---- what the evaluation adds
-- the evaluation of one success with this code, of the numbers 0 and 1
abbrev success : ℕ → Told
success code = record { code = code; first = 0; second = 1; success = true }

pub adds_exact : AddsExact
unfolding evaluate
adds_exact code m entry = (
  (λ h. sym (ap (λ (entries : List Bool). get_or entries 2 false) (h (m.first ∷ m.second ∷ []) (success code) tt refl refl refl))),
  (λ e entries t s c a b. rw (true_is {t = t.success} s, c, a, b, e) refl),
)

-- ---- the test
beq_exact : (a b : Bool) → T (beq a b) ↔ (a ≡ b)
beq_exact true true = ((λ t. refl), (λ e. tt))
beq_exact false false = ((λ t. refl), (λ e. tt))
beq_exact true false = ((λ t. absurd t), (λ e. subst T e tt))
beq_exact false true = ((λ t. absurd t), (λ e. subst T (sym e) tt))

below_exact : (n : ℕ) (f : ℕ → Bool) → T (all_below n f) ↔ ((i : ℕ) → i < n → T (f i))
below_exact zero f = ((λ t i l. absurd (not-suc-le-zero l)), (λ h. tt))
below_exact (suc n) f = (
  (λ t. let h = and_yes (f 0) (all_below n (λ i. f (suc i))) t in each h.0 ((below_exact n (λ i. f (suc i))).0 h.1)),
  (λ h. yes_and (f 0) (all_below n (λ i. f (suc i))) (h 0 (omega arith)) ((below_exact n (λ i. f (suc i))).1 (λ i l. h (suc i) (omega arith)))),
)
  where
    each : T (f 0) → ((i : ℕ) → i < n → T (f (suc i))) → (i : ℕ) → i < suc n → T (f i)
    each t h zero l = t
    each t h (suc i) l = h i (le_of_suc-le-suc l)

entry_exact : (rows : List (List Bool)) (code column : ℕ) → T (is_entry rows code column) ↔ Adds code (membership_at column) (table_entry rows code column)
entry_exact rows code column =
    let s = beq_exact (table_entry rows code column) (says_for code (membership_at column)) in
    let a = adds_exact code (membership_at column) (table_entry rows code column) in
    ((λ t. a.1 (s.0 t)), (λ h. s.1 (a.0 h)))

pub answer_table_exact : AnswerTableExact
answer_table_exact rows =
    let h = below_exact (length codes) (λ code. all_below (length memberships) (is_entry rows code)) in (
      (λ t. record { adds = λ code column l k. (entry_exact rows code column).0 ((below_exact (length memberships) (is_entry rows code)).0 (h.0 t code l) column k) }),
      (λ a. h.1 (λ code l. (below_exact (length memberships) (is_entry rows code)).1 (λ column k. (entry_exact rows code column).1 (a.adds code column l k)))),
    )
