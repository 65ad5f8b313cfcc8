-- The outcome of each call, way out by way out.
use Rattle.std.specs.Prelude.{Result}
use mathlib.Core.Path.{◌≡◌, ◌∙◌}
use mathlib.Core.Bool.{true, false}
use mathlib.Core.List.{List, []}
use Prim.Native.Nat.{ℕ}
use lib.ListN.{length}
use lib.IntN.{ℤ}
use Rattle.geometry.specs.Points.{Point}
use Rattle.geometry.specs.Trapezoids.{layer_of, lies_in_layer}
use Rattle.sources.specs.Sourced.{sourced_of}
use Rattle.boolean.specs.declared.Folded.{Folded}
use Rattle.boolean.specs.Operations.{code_at, result, difference}
use Rattle.boolean.specs.Sources.{sourced_result, sourced_deoverlapped}
use Rattle.boolean.specs.Space.{space, stages, deoverlapped_stages, equality_stages}
use Rattle.boolean.specs.declared.NoRoom.{NoRoom}
use Rattle.boolean.specs.Folds.{folded, no_room_after}
use Rattle.files.specs.Outcomes.{refused, done}
use Rattle.calls.specs.Answers.{refused_equality, refused_point, yes, no}
use Rattle.calls.specs.Rows.{both_disjoint, combine_checked, deoverlap_checked, equal_checked, contains_checked}
use Rattle.calls.specs.Outcomes.{observed, zeros, room_of, written, outcome, combined, deoverlap_outcome, compared_in, equality_outcome, equal_outcome, contains_answer}
use Rattle.bearing_code.specs.Code.{SourcedAs}
use Rattle.searched_code.proofs.Outcomes.{written_no_room, written_done}
use Rattle.std.specs.Prelude.{Ok}
use Rattle.geometry.specs.Refusals.{refused_by}

-- ---- the point question
module _ (L : ℕ) (P : Point) (a b : List ℤ) (code : ℕ) where
  pub contains_refuses : {n p : ℕ} → contains_checked L P a b code ≡ refused_by n p → refused_point n p ≡ contains_answer L P a b code
  unfolding contains_answer
  contains_refuses e = rw e

  module _ (e : contains_checked L P a b code ≡ Ok tt) where
    pub contains_yes : lies_in_layer P (result (code_at code) (layer_of a) (layer_of b)) ≡ true → yes ≡ contains_answer L P a b code
    unfolding contains_answer
    contains_yes l = rw (e, l)

    pub contains_no : lies_in_layer P (result (code_at code) (layer_of a) (layer_of b)) ≡ false → no ≡ contains_answer L P a b code
    unfolding contains_answer
    contains_no l = rw (e, l)

-- ---- the set operations
module _ (L code : ℕ) (a b out scratch : List ℤ) where
  pub combine_refuses : {n p : ℕ} → combine_checked L code a b (length out) (length scratch) ≡ refused_by n p → observed (refused n p) out scratch ≡ combined L code a b out scratch
  unfolding combined
  combine_refuses e = rw e

  -- rows 1 to 11 let the call pass, and row 13 decides
  pub combine_past : combine_checked L code a b (length out) (length scratch) ≡ Ok tt
      → outcome (both_disjoint a b) out scratch (sourced_result (code_at code) (sourced_of a) (sourced_of b)) (stages (code_at code) (layer_of a) (layer_of b)) ≡ combined L code a b out scratch
  unfolding combined
  combine_past e = rw e

-- ---- deoverlapping
module _ (L : ℕ) (a out scratch : List ℤ) where
  pub deoverlap_refuses : {n p : ℕ} → deoverlap_checked L a (length out) (length scratch) ≡ refused_by n p → observed (refused n p) out scratch ≡ deoverlap_outcome L a out scratch
  unfolding deoverlap_outcome
  deoverlap_refuses e = rw e

  deoverlap_written : deoverlap_checked L a (length out) (length scratch) ≡ Ok tt
      → written (length out) (sourced_deoverlapped (sourced_of a)) (space (room_of out) (deoverlapped_stages [] (layer_of a))) ≡ deoverlap_outcome L a out scratch
  unfolding deoverlap_outcome
  deoverlap_written e = rw e

  module _ (e : deoverlap_checked L a (length out) (length scratch) ≡ Ok tt) (f : Result Folded NoRoom) (m : ℕ) (d s : List ℤ)
      (h : SourcedAs m (room_of out) (sourced_deoverlapped (sourced_of a)) (deoverlapped_stages [] (layer_of a)) f d) (l : m ≡ length out) (z : s ≡ zeros (length out)) where
    pub deoverlap_no_room : {c : ℕ} → f ≡ no_room_after c → observed (refused 12 0) d s ≡ deoverlap_outcome L a out scratch
    deoverlap_no_room g =
        written_no_room (room_of out) (sourced_deoverlapped (sourced_of a)) (deoverlapped_stages [] (layer_of a)) f (length out) m d s h l z g ∙ deoverlap_written e

    pub deoverlap_done : {t c : ℕ} → f ≡ folded t c → observed (done t c) d s ≡ deoverlap_outcome L a out scratch
    deoverlap_done g =
        written_done (room_of out) (sourced_deoverlapped (sourced_of a)) (deoverlapped_stages [] (layer_of a)) f (length out) m d s h l z g ∙ deoverlap_written e

-- ---- the equality test
module _ (L : ℕ) (a b out scratch : List ℤ) where
  pub equal_refuses : {n p : ℕ} → equal_checked L a b (length out) (length scratch) ≡ refused_by n p → observed (refused_equality n p) out scratch ≡ equal_outcome L a b out scratch
  unfolding equal_outcome
  equal_refuses e = rw e

  pub equal_past : equal_checked L a b (length out) (length scratch) ≡ Ok tt
      → equality_outcome (both_disjoint a b) out scratch (compared_in (difference (layer_of a) (layer_of b)) (difference (layer_of b) (layer_of a)) (space (room_of out) (equality_stages (layer_of a) (layer_of b))))
      ≡ equal_outcome L a b out scratch
  unfolding equal_outcome
  equal_past e = rw e
