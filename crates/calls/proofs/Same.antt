-- The equality test, where it is not refused.
use mathlib.Core.Path.{◌≡◌, refl, sym, subst}
use mathlib.Core.Bool.{not}
use mathlib.Core.List.{List, [], ◌∷◌}
use Prim.Native.Nat.{ℕ}
use lib.Dec.{T}
use lib.IntN.{ℤ}
use lib.ListN.{length}
use Rattle.geometry.specs.declared.Trapezoid.{Trapezoid}
use Rattle.geometry.specs.Trapezoids.{layer_of, Disjoint}
use Rattle.boolean.specs.Operations.{difference}
use Rattle.boolean.specs.Space.{Space, enough, no_room, space, equality_stages}
use Rattle.boolean.specs.Statements.{IsYes}
use Rattle.boolean.proofs.Equality.{equality_exact, difference_some}
use Rattle.calls.specs.Rows.{and_then, both_disjoint, equal_checked}
use Rattle.calls.specs.Answers.{EqualityAnswer, is_refused, is_same, is_operand}
use Rattle.calls.specs.Outcomes.{room_of, compared, compared_in, equality_outcome, equal_outcome}
use Rattle.calls.specs.Statements.{Compares}
use Rattle.calls.proofs.Checks.{EqualReady, equal_ready}
use Rattle.calls.proofs.Overlaps.{and_passed, both_passed}
use Rattle.calls.proofs.Success.{FitTrapezoids}
use Rattle.std.specs.Prelude.{Result, Ok, Err}
use Rattle.geometry.specs.declared.Refusal.{Refusal}

abbrev Empty : List Trapezoid → Type 0
Empty ts = ts ≡ []

-- ---- the answer, by the two differences
some : (t : Trapezoid) (ts : List Trapezoid) → t ∷ ts ≡ [] → ⊥
some t ts e = subst Some e tt
  where
    Some : List Trapezoid → Type 0
    Some [] = ⊥
    Some (t ∷ ts) = Unit {0}

record ByDifferences (answer : EqualityAnswer) (ts us : List Trapezoid) : Type 0 where
  same : IsYes (is_same answer) (Empty ts × Empty us)
  operand_0 : IsYes (is_operand 0 answer) (Empty ts → ⊥)
  operand_1 : IsYes (is_operand 1 answer) (Empty ts × (Empty us → ⊥))

compared_by : (ts us : List Trapezoid) (overlays : ℕ) → ByDifferences (compared ts us overlays) ts us
compared_by [] [] overlays =
    record {
      same = ((λ h. (refl, refl)), (λ e. tt));
      operand_0 = ((λ h. absurd h), (λ n. n refl));
      operand_1 = ((λ h. absurd h), (λ n. n.1 refl));
    }
compared_by [] (u ∷ us) overlays =
    record {
      same = ((λ h. absurd h), (λ e. absurd (some u us e.1)));
      operand_0 = ((λ h. absurd h), (λ n. n refl));
      operand_1 = ((λ h. (refl, some u us)), (λ n. tt));
    }
compared_by (t ∷ ts) us overlays =
    record {
      same = ((λ h. absurd h), (λ e. absurd (some t ts e.0)));
      operand_0 = ((λ h. some t ts), (λ n. tt));
      operand_1 = ((λ h. absurd h), (λ n. absurd (some t ts n.0)));
    }

compared_in_by : (ts us : List Trapezoid) (s : Space) → T (not (is_refused (compared_in ts us s))) → ByDifferences (compared_in ts us s) ts us
compared_in_by ts us (enough overlays) h = compared_by ts us overlays
compared_in_by ts us (no_room overlays) h = absurd h

-- ---- the rows
record Passes (c : Result (Unit {0}) Refusal) (out scratch : List ℤ) (answer : EqualityAnswer) : Type 0 where
  passed : c ≡ Ok tt
  answers : (equality_outcome c out scratch answer).answer ≡ answer

passes : (c : Result (Unit {0}) Refusal) (out scratch : List ℤ) (answer : EqualityAnswer) → T (not (is_refused (equality_outcome c out scratch answer).answer)) → Passes c out scratch answer
passes (Ok u) out scratch answer h = record { passed = refl; answers = refl }
passes (Err refusal) out scratch answer h = absurd h

-- ---- the differences, by the points
decided : (ts : List Trapezoid) → ((Empty ts → ⊥) → ⊥) → Empty ts
decided [] n = refl
decided (t ∷ ts) n = absurd (n (some t ts))

compares : (L : ℕ) (answer : EqualityAnswer) (A B : List Trapezoid) → FitTrapezoids L A → FitTrapezoids L B → ByDifferences answer (difference A B) (difference B A) → Compares answer A B
compares L answer A B hA hB k =
    let e = equality_exact L A B hA hB in
    let f = difference_some L A B hA hB in
    let g = difference_some L B A hB hA in
    record {
      same = ((λ x. e.0 (k.same.0 x)), (λ y. k.same.1 (e.1 y)));
      operand_0 = ((λ x. f.0 (k.operand_0.0 x)), (λ y. k.operand_0.1 (f.1 y)));
      operand_1 = (
        (λ x. let d = k.operand_1.0 x in ((λ y. f.1 y d.0), g.0 d.1)),
        (λ y. k.operand_1.1 (decided (difference A B) (λ n. y.0 (f.0 n)), g.1 y.1)),
      );
    }

-- ---- the test
module _ (L : ℕ) (A B out scratch : List ℤ) where
  abbrev rows : Result (Unit {0}) Refusal
  rows = equal_checked L A B (length out) (length scratch)

  abbrev answer : EqualityAnswer
  answer = compared_in (difference (layer_of A) (layer_of B)) (difference (layer_of B) (layer_of A)) (space (room_of out) (equality_stages (layer_of A) (layer_of B)))

  module _ (h : T (not (is_refused (equal_outcome L A B out scratch).answer))) where
    lets_pass : Passes (and_then rows (both_disjoint A B)) out scratch answer
    unfolding equal_outcome
    lets_pass = passes (and_then rows (both_disjoint A B)) out scratch answer h

    both : (rows ≡ Ok tt) × (both_disjoint A B ≡ Ok tt)
    both = and_passed rows (both_disjoint A B) lets_pass.passed

    fit : EqualReady L A B (length out) (length scratch)
    fit = equal_ready L A B (length out) (length scratch) both.0

    pub equal_disjoint : Disjoint (layer_of A) × Disjoint (layer_of B)
    equal_disjoint = both_passed L A B fit.first.fit fit.second.fit both.1

    pub equal_exactly : Compares (equal_outcome L A B out scratch).answer (layer_of A) (layer_of B)
    unfolding equal_outcome
    equal_exactly =
        let ts = difference (layer_of A) (layer_of B) in
        let us = difference (layer_of B) (layer_of A) in
        let s = space (room_of out) (equality_stages (layer_of A) (layer_of B)) in
        let e = lets_pass.answers in
        let k = compared_in_by ts us s (subst (λ (a : EqualityAnswer). T (not (is_refused a))) e h) in
        subst (λ (a : EqualityAnswer). Compares a (layer_of A) (layer_of B)) (sym e)
        (compares L answer (layer_of A) (layer_of B) fit.first.fit fit.second.fit k)
