-- The loop that checks a layer's trapezoids one after the other.
use mathlib.Core.Path.{◌≡◌, sym, ap, ◌∙◌}
use mathlib.Core.List.{List, ◌∷◌}
use Prim.Native.Nat.{ℕ, ◌+◌, ◌-◌, ◌<◌, ◌≤◌}
use native.Mathlib.Nat.{add_assoc, add-zero}
use native.Mathlib.Omega.{arith}
use lib.IntN.{ℤ}
use Rattle.records.specs.Records.{record_at, records_from, count}
use Rattle.records.proofs.Records.{from_start, from_step, from_none}
use Rattle.geometry.specs.Trapezoids.{trapezoid_codec, layer_of}
use Rattle.geometry.specs.Fitness.{verdict, first_refusal}
use Rattle.std.specs.Prelude.{Ok, Err}
use Rattle.geometry.specs.Refusals.{refused_by}

-- the first i are fit, and the rest decides
pub record Checking (L start : ℕ) (words : List ℤ) (i : ℕ) : Type 0 where
  pub same : first_refusal L start (layer_of words) ≡ first_refusal L (start + i) (records_from trapezoid_codec (count trapezoid_codec words - i) words i)
  pub upto : i ≤ count trapezoid_codec words

pub begin : (L start : ℕ) (words : List ℤ) → Checking L start words 0
begin L start words = record { same = rw (add-zero start, from_start trapezoid_codec (count trapezoid_codec words) words); upto = omega arith }

module _ {L start : ℕ} {words : List ℤ} {i : ℕ} (h : Checking L start words i) where
  unrolled : i < count trapezoid_codec words → first_refusal L start (layer_of words) ≡ first_refusal L (start + i) (record_at trapezoid_codec words i ∷ records_from trapezoid_codec (count trapezoid_codec words - (i + 1)) words (i + 1))
  unrolled l = h.same ∙ ap (first_refusal L (start + i)) (from_step trapezoid_codec (count trapezoid_codec words) words i l)

  pub fit : i < count trapezoid_codec words → verdict L (record_at trapezoid_codec words i) ≡ Ok tt → Checking L start words (i + 1)
  unfolding first_refusal
  fit l e = record { same = unrolled l ∙ rw (e, add_assoc start i 1); upto = omega arith }

  pub refused : i < count trapezoid_codec words → {n : ℕ} → verdict L (record_at trapezoid_codec words i) ≡ Err n → refused_by n (start + i) ≡ first_refusal L start (layer_of words)
  unfolding first_refusal
  refused l e = sym (unrolled l ∙ rw e)

  pub passed : count trapezoid_codec words ≤ i → (Ok tt) ≡ first_refusal L start (layer_of words)
  unfolding first_refusal
  passed l = sym (h.same ∙ ap (first_refusal L (start + i)) (from_none trapezoid_codec (count trapezoid_codec words) words i l))
