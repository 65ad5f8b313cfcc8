-- The difference of two layers, as a fold.
use Rattle.std.specs.Prelude.{Result}
use mathlib.Core.Path.{◌≡◌, refl, sym, ◌∙◌, ap}
use mathlib.Core.List.{List, [], ◌∷◌, ◌++◌}
use Prim.Native.Nat.{ℕ, ◌+◌, ◌-◌, ◌<◌, ◌≤◌}
use native.Mathlib.Omega.{arith}
use lib.ListN.{length}
use lib.IntN.{ℤ}
use Rattle.records.specs.Records.{record_at, count}
use Rattle.geometry.specs.declared.Trapezoid.{Trapezoid}
use Rattle.geometry.specs.Trapezoids.{trapezoid_codec, layer_of}
use Rattle.sources.specs.Sourced.{Sourced, sourced_of, sources_at, shapes, bearing}
use Rattle.sources.proofs.Sourced.{sourced_at, bearing-length, shapes_of, shapes-length}
use Rattle.boolean.specs.declared.Folded.{Folded}
use Rattle.boolean.specs.declared.NoRoom.{NoRoom}
use Rattle.boolean.specs.Operations.{minus_all, difference}
use Rattle.boolean.specs.Sources.{sourced_difference}
use Rattle.boolean.specs.Space.{Stage, enough, space, one_stages, difference_stages}
use Rattle.boolean.proofs.Forgetting.{difference_forgets}
use Rattle.boolean.proofs.Shifting.{one_shift}
use Rattle.trapezoids_code.proofs.Writing.{tail}
use Rattle.remainder_code.proofs.Folding.{Fold, Steps, Folding, Part, Turned, fold_turn, appending, appending_steps}
use Rattle.bearing_code.specs.Code.{SourcedAs}
use Rattle.bearing_code.proofs.Bearing.{sourced}

-- there are as many trapezoids as without their sets
pub difference-count : (s : List ℤ) (B : List Trapezoid) → length (sourced_difference (sourced_of s) B) ≡ length (difference (layer_of s) B)
difference-count s B = sym (shapes-length (sourced_difference (sourced_of s) B)) ∙ ap length (difference_forgets (sourced_of s) B ∙ ap (λ (ts : List Trapezoid). difference ts B) (shapes_of s))

module _ (B : List Trapezoid) where
  -- what remains of one
  abbrev left : Sourced → List Sourced
  left a = bearing a.sources (minus_all (a.shape ∷ []) B)

  difference_none : sourced_difference [] B ≡ []
  unfolding sourced_difference
  difference_none = refl

  difference_one : (a : Sourced) (A : List Sourced) → sourced_difference (a ∷ A) B ≡ left a ++ sourced_difference A B
  unfolding sourced_difference
  difference_one a A = refl

  no_stages : (room k : ℕ) → space room (difference_stages k [] B) ≡ enough 0
  unfolding space difference_stages
  no_stages room k = refl

  one_stages_lem : (k : ℕ) (a : Sourced) (A : List Sourced) → difference_stages k (shapes (a ∷ A)) B ≡ one_stages k a.shape B ++ difference_stages (k + length (left a)) (shapes A) B
  unfolding difference_stages
  one_stages_lem k a A = ap (λ (n : ℕ). one_stages k a.shape B ++ difference_stages (k + n) (shapes A) B) (sym (bearing-length a.sources (minus_all (a.shape ∷ []) B)))

  abbrev pub difference_fold : Fold Sourced Sourced
  difference_fold = appending sourced sourced (λ A. sourced_difference A B) (λ k A. difference_stages k (shapes A) B) left (λ k a left. one_stages k a.shape B)

  pub difference_steps : Steps difference_fold
  difference_steps =
      appending_steps sourced sourced (λ A. sourced_difference A B) (λ k A. difference_stages k (shapes A) B) left (λ k a left. one_stages k a.shape B)
      difference_none difference_one no_stages one_stages_lem

  pub difference_part : {room k left : ℕ} {done : List Sourced} (a : Sourced) → k ≡ length done → k ≤ room
      → Part difference_fold room done a left (room - k) (bearing a.sources (minus_all (a.shape ∷ []) B)) (one_stages 0 a.shape B)
  difference_part {room} {k} {left} {done} a n l =
      record { next = refl; same = ap (λ (x : ℕ). space room (one_stages x a.shape B)) (sym n) ∙ one_shift room k (room - k) a.shape B (omega (arith, l)); within = omega (arith, n, l) }

  -- one turn: `shape` with the set z is number i of the first layer, f answers what remains of it, and t comes back as the tail
  module _ {W room : ℕ} {goal : List Sourced} {ms : List Stage} {first out : List ℤ} {k made i : ℕ} (h : Folding difference_fold W room goal ms first out k made i) (l : i < count trapezoid_codec first) where
    pub difference_turn : (shape : Trapezoid) → shape ≡ record_at trapezoid_codec first i → (z : ℤ) → z ≡ sources_at first i → (f : Result Folded NoRoom) (t : List ℤ)
        → SourcedAs (length (tail out k)) (room - k) (bearing z (minus_all (shape ∷ []) B)) (one_stages 0 shape B) f t → Turned h (room - k) f t
    difference_turn shape e z w f t g =
        fold_turn h l (record { shape = shape; sources = z }) ((λ j. record { shape = e j; sources = w j }) ∙ sym (sourced_at first i)) (difference_part (record { shape = shape; sources = z }) h.size h.within) f t g
