-- The first refusal of two lists in a row.
use mathlib.Core.Path.{◌≡◌, refl, sym, ◌∙◌, ap}
use mathlib.Core.List.{List, [], ◌∷◌, ◌++◌}
use Prim.Native.Nat.{ℕ, ◌+◌}
use native.Mathlib.Nat.{add-zero}
use native.Mathlib.Omega.{arith}
use lib.ListN.{length}
use Rattle.geometry.specs.declared.Trapezoid.{Trapezoid}
use Rattle.geometry.specs.Fitness.{verdict, refuse, first_refusal}
use Rattle.calls.specs.Rows.{and_then}
use Rattle.std.specs.Prelude.{Result, Ok, Err}
use Rattle.geometry.specs.declared.Refusal.{Refusal}
use Rattle.geometry.specs.Refusals.{refused_by}

-- ---- two lists in a row
then_refuse : (v : Result (Unit {0}) ℕ) (i : ℕ) (c d : Result (Unit {0}) Refusal) → and_then (refuse v i c) d ≡ refuse v i (and_then c d)
then_refuse (Ok u) i c d = refl
then_refuse (Err n) i c d = refl

first_none : (L i : ℕ) → first_refusal L i [] ≡ Ok tt
unfolding first_refusal
first_none L i = refl

first_one : (L i : ℕ) (t : Trapezoid) (ts : List Trapezoid) → first_refusal L i (t ∷ ts) ≡ refuse (verdict L t) i (first_refusal L (i + 1) ts)
unfolding first_refusal
first_one L i t ts = refl

first_append : (L i : ℕ) (ts us : List Trapezoid) → first_refusal L i (ts ++ us) ≡ and_then (first_refusal L i ts) (first_refusal L (i + length ts) us)
first_append L i [] us = rw (first_none L i, add-zero i)
first_append L i (t ∷ ts) us =
    first_one L i t (ts ++ us) ∙ ap (refuse (verdict L t) i) (first_append L (i + 1) ts us)
    ∙ sym (then_refuse (verdict L t) i (first_refusal L (i + 1) ts) (first_refusal L (i + 1 + length ts) us))
    ∙ ap (λ (n : ℕ). and_then (refuse (verdict L t) i (first_refusal L (i + 1) ts)) (first_refusal L n us)) (omega arith)
    ∙ ap (λ (c : Result (Unit {0}) Refusal). and_then c (first_refusal L (i + length (t ∷ ts)) us)) (sym (first_one L i t ts))

pub first_passed : (L : ℕ) (ts us : List Trapezoid) → first_refusal L 0 ts ≡ Ok tt → first_refusal L (length ts) us ≡ first_refusal L 0 (ts ++ us)
first_passed L ts us e = let n : 0 + length ts ≡ length ts = omega arith in sym (first_append L 0 ts us ∙ ap (λ (c : Result (Unit {0}) Refusal). and_then c (first_refusal L (0 + length ts) us)) e ∙ ap (λ (i : ℕ). first_refusal L i us) n)

pub first_refused : (L : ℕ) (ts us : List Trapezoid) {n p : ℕ} → first_refusal L 0 ts ≡ refused_by n p → refused_by n p ≡ first_refusal L 0 (ts ++ us)
first_refused L ts us e = sym (first_append L 0 ts us ∙ ap (λ (c : Result (Unit {0}) Refusal). and_then c (first_refusal L (0 + length ts) us)) e)
