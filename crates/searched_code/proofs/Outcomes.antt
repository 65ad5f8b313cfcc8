-- The outcome of each call once rows 1 to 11 have let it pass, way out by way out.
use Rattle.std.specs.Prelude.{Result}
use mathlib.Core.Path.{◌≡◌, ◌∙◌, ap, subst}
use mathlib.Core.List.{List, [], ◌∷◌}
use Prim.Native.Nat.{ℕ, ◌≤◌}
use native.Mathlib.Omega.{arith}
use lib.ListN.{length}
use lib.IntN.{ℤ}
use Rattle.records.specs.Limits.{max_records}
use Rattle.geometry.specs.declared.Trapezoid.{Trapezoid}
use Rattle.geometry.specs.Trapezoids.{layer_of}
use Rattle.sources.specs.Sourced.{Sourced, sourced_of}
use Rattle.boolean.specs.declared.Folded.{Folded}
use Rattle.boolean.specs.Operations.{code_at, difference, OperandOf}
use Rattle.boolean.specs.Sources.{sourced_result}
use Rattle.boolean.specs.Space.{Stage, space, stages, equality_stages}
use Rattle.boolean.specs.declared.Compared.{Compared}
use Rattle.boolean.specs.declared.Compared.TheVariants as comparison
use Rattle.boolean.specs.declared.NoRoom.{NoRoom}
use Rattle.boolean.specs.Folds.{folded, no_room_after}
use Rattle.files.specs.Outcomes.{Answer, refused, done, SmallAnswer}
use Rattle.calls.specs.Answers.{EqualityAnswer, refused_equality, same, differs, SmallEqualityAnswer}
use Rattle.calls.specs.Rows.{both_disjoint}
use Rattle.calls.specs.Outcomes.{Outcome, observed, zeros, room_of, written, outcome, compared, compared_in, equality_outcome}
use Rattle.remainder_code.specs.Code.{max_overlays, OverlaysWithin}
use Rattle.bearing_code.specs.Code.{SourcedAs}
use Rattle.equality_code.specs.Code.{ComparedAs, ComparedWithin}
use Rattle.std.specs.Prelude.{Ok}
use Rattle.geometry.specs.Refusals.{refused_by}

-- ---- operations that write trapezoids
module _ (room : ℕ) (ts : List Sourced) (ms : List Stage) (f : Result Folded NoRoom) (n m : ℕ) (d s : List ℤ) (h : SourcedAs m room ts ms f d) (e : m ≡ n) (z : s ≡ zeros n) where
  whole : SourcedAs n room ts ms f d
  whole = subst (λ (m : ℕ). SourcedAs m room ts ms f d) e h

  pub written_no_room : {c : ℕ} → f ≡ no_room_after c → observed (refused 12 0) d s ≡ written n ts (space room ms)
  written_no_room g = let k = subst (λ (f : Result Folded NoRoom). SourcedAs n room ts ms f d) g whole in rw (k.0, k.1, z)

  pub written_done : {t c : ℕ} → f ≡ folded t c → observed (done t c) d s ≡ written n ts (space room ms)
  written_done g = let k = subst (λ (f : Result Folded NoRoom). SourcedAs n room ts ms f d) g whole in rw (k.0, k.1.0, k.1.2, z)

  pub small_done : room ≤ max_records → OverlaysWithin max_overlays f → {t c : ℕ} → f ≡ folded t c → SmallAnswer (done t c)
  small_done l o {t} {c} g =
      let k = subst (λ (f : Result Folded NoRoom). SourcedAs n room ts ms f d) g whole in
      let w : c ≤ max_overlays = subst (OverlaysWithin max_overlays) g o in
      (omega (arith, l, k.1.0, k.1.1), omega (arith, w))

module _ (code : ℕ) (a b out scratch : List ℤ) where
  abbrev searched : Outcome Answer
  searched = outcome (both_disjoint a b) out scratch (sourced_result (code_at code) (sourced_of a) (sourced_of b)) (stages (code_at code) (layer_of a) (layer_of b))

  pub combine_refuses : {n p : ℕ} → both_disjoint a b ≡ refused_by n p → observed (refused n p) out scratch ≡ searched
  combine_refuses e = rw e

  combine_written : both_disjoint a b ≡ Ok tt
      → written (length out) (sourced_result (code_at code) (sourced_of a) (sourced_of b)) (space (room_of out) (stages (code_at code) (layer_of a) (layer_of b))) ≡ searched
  combine_written e = rw e

  module _ (e : both_disjoint a b ≡ Ok tt) (f : Result Folded NoRoom) (m : ℕ) (d s : List ℤ)
      (h : SourcedAs m (room_of out) (sourced_result (code_at code) (sourced_of a) (sourced_of b)) (stages (code_at code) (layer_of a) (layer_of b)) f d)
      (l : m ≡ length out) (z : s ≡ zeros (length out)) where
    pub combine_no_room : {c : ℕ} → f ≡ no_room_after c → observed (refused 12 0) d s ≡ searched
    combine_no_room g =
        written_no_room (room_of out) (sourced_result (code_at code) (sourced_of a) (sourced_of b)) (stages (code_at code) (layer_of a) (layer_of b)) f (length out) m d s h l z g
        ∙ combine_written e

    pub combine_done : {t c : ℕ} → f ≡ folded t c → observed (done t c) d s ≡ searched
    combine_done g =
        written_done (room_of out) (sourced_result (code_at code) (sourced_of a) (sourced_of b)) (stages (code_at code) (layer_of a) (layer_of b)) f (length out) m d s h l z g
        ∙ combine_written e

-- ---- the equality test
differs_on : (ts us : List Trapezoid) (operand c : ℕ) → OperandOf ts us operand → differs operand c ≡ compared ts us c
differs_on [] [] operand c h = absurd (omega (arith, h.0))
differs_on [] (u ∷ us) operand c h = ap (λ (i : ℕ). differs i c) h.1
differs_on (t ∷ ts) us operand c h = ap (λ (i : ℕ). differs i c) h

small_operand : (ts us : List Trapezoid) (operand : ℕ) → OperandOf ts us operand → operand ≤ 1
small_operand [] us operand h = omega (arith, h.1)
small_operand (t ∷ ts) us operand h = omega (arith, h)

module _ (room : ℕ) (A B : List Trapezoid) (f : Compared) (h : ComparedAs room A B f) where
  refused_no_room : {c : ℕ} → f ≡ comparison.NoRoom c → refused_equality 12 0 ≡ compared_in (difference A B) (difference B A) (space room (equality_stages A B))
  refused_no_room g = let k = subst (ComparedAs room A B) g h in rw k

  is_same : {c : ℕ} → f ≡ comparison.Same c → same c ≡ compared_in (difference A B) (difference B A) (space room (equality_stages A B))
  is_same g = let k = subst (ComparedAs room A B) g h in rw (k.0, k.1, k.2)

  is_different : {i c : ℕ} → f ≡ comparison.Differs i c → differs i c ≡ compared_in (difference A B) (difference B A) (space room (equality_stages A B))
  is_different {i} {c} g = let k = subst (ComparedAs room A B) g h in rw k.0 (differs_on (difference A B) (difference B A) i c k.1)

  pub small_different : ComparedWithin max_overlays f → {i c : ℕ} → f ≡ comparison.Differs i c → SmallEqualityAnswer (differs i c)
  small_different o {i} {c} g =
      let k = subst (ComparedAs room A B) g h in
      let w : c ≤ max_overlays = subst (ComparedWithin max_overlays) g o in
      (small_operand (difference A B) (difference B A) i k.1, omega (arith, w))

pub small_same : {f : Compared} {c : ℕ} → ComparedWithin max_overlays f → f ≡ comparison.Same c → SmallEqualityAnswer (same c)
small_same {f} {c} o g = let w : c ≤ max_overlays = subst (ComparedWithin max_overlays) g o in omega (arith, w)

module _ (a b out scratch : List ℤ) where
  abbrev tested : Outcome EqualityAnswer
  tested =
      equality_outcome (both_disjoint a b) out scratch
      (compared_in (difference (layer_of a) (layer_of b)) (difference (layer_of b) (layer_of a)) (space (room_of out) (equality_stages (layer_of a) (layer_of b))))

  pub equal_refuses : {n p : ℕ} → both_disjoint a b ≡ refused_by n p → observed (refused_equality n p) out scratch ≡ tested
  equal_refuses e = rw e

  equal_compared : (d s : List ℤ) → d ≡ zeros (length out) → s ≡ zeros (length scratch) → both_disjoint a b ≡ Ok tt
      → observed (compared_in (difference (layer_of a) (layer_of b)) (difference (layer_of b) (layer_of a)) (space (room_of out) (equality_stages (layer_of a) (layer_of b)))) d s ≡ tested
  equal_compared d s y z e = rw (e, y, z)

  module _ (e : both_disjoint a b ≡ Ok tt) (f : Compared) (d s : List ℤ) (h : ComparedAs (room_of out) (layer_of a) (layer_of b) f)
      (y : d ≡ zeros (length out)) (z : s ≡ zeros (length scratch)) where
    pub equal_no_room : {c : ℕ} → f ≡ comparison.NoRoom c → observed (refused_equality 12 0) d s ≡ tested
    equal_no_room g = ap (λ x. observed x d s) (refused_no_room (room_of out) (layer_of a) (layer_of b) f h g) ∙ equal_compared d s y z e

    pub equal_same : {c : ℕ} → f ≡ comparison.Same c → observed (same c) d s ≡ tested
    equal_same g = ap (λ x. observed x d s) (is_same (room_of out) (layer_of a) (layer_of b) f h g) ∙ equal_compared d s y z e

    pub equal_different : {i c : ℕ} → f ≡ comparison.Differs i c → observed (differs i c) d s ≡ tested
    equal_different g = ap (λ x. observed x d s) (is_different (room_of out) (layer_of a) (layer_of b) f h g) ∙ equal_compared d s y z e
