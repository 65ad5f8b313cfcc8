-- The outcome of `fracture` and `fracture_first_edition`, way out by way out.
use Rattle.std.specs.Prelude.{Option, Some, None, Ok}
use mathlib.Core.Path.{◌≡◌, sym, ◌∙◌, subst}
use mathlib.Core.List.{List, [], ◌∷◌}
use Prim.Native.Nat.{ℕ, ◌*◌, ◌<◌, ◌≤◌}
use native.Mathlib.Omega.{arith}
use lib.ListN.{length}
use lib.IntN.{ℤ}
use borrow.Author.Tests.{lt-ltb, le-ltb}
use Rattle.records.specs.Limits.{memory_width, max_records}
use Rattle.records.specs.Records.{image}
use Rattle.sources.specs.Sets.{single}
use Rattle.sources.specs.Sourced.{Sourced, sourced_codec, bearing}
use Rattle.sources.proofs.Sourced.{bearing-length}
use Rattle.boolean.specs.Space.{Space, addition, enough, no_room, space}
use Rattle.files.specs.declared.Edition.{Edition}
use Rattle.files.specs.Outcomes.{refused, done, SmallAnswer}
use Rattle.calls.specs.Rows.{fracture_checked}
use Rattle.calls.specs.Outcomes.{observed, zeros, room_of, written, fractured_of, fracture_outcome}
use Rattle.trapezoids_code.specs.Tails.{FilledAs}
use Rattle.sources_code.specs.Code.{with_sources}
use Rattle.sources_code.proofs.Sources.{with_sources_image}
use Rattle.geometry.specs.Refusals.{refused_by}

-- ---- its outcome
space_no_room : (room k : ℕ) → room < k → space room (addition k ∷ []) ≡ no_room 0
unfolding space
space_no_room room k l = rw (lt-ltb room k l)

space_enough : (room k : ℕ) → k ≤ room → space room (addition k ∷ []) ≡ enough 0
unfolding space
space_enough room k l = rw (le-ltb room k l)

module _ (edition : Edition) (L layer : ℕ) (file : List ℕ) (out scratch : List ℤ) where
  pub fracture_refuses : {n p : ℕ} → fracture_checked edition L layer file (length out) (length scratch) ≡ refused_by n p → observed (refused n p) out scratch ≡ fracture_outcome edition L layer file out scratch
  unfolding fracture_outcome
  fracture_refuses e = rw e

  -- the trapezoids with their sets, and the stage that their number makes
  abbrev fractured : List Sourced
  fractured = bearing (single layer) (fractured_of edition L file)

  abbrev stage : Space
  stage = space (room_of out) (addition (length (fractured_of edition L file)) ∷ [])

  fracture_written : fracture_checked edition L layer file (length out) (length scratch) ≡ Ok tt → written (length out) fractured stage ≡ fracture_outcome edition L layer file out scratch
  unfolding fracture_outcome
  fracture_written e = rw e

  module _ (e : fracture_checked edition L layer file (length out) (length scratch) ≡ Ok tt) (f : Option ℕ) (m : ℕ) (d s : List ℤ) (h : FilledAs m (room_of out) (fractured_of edition L file) f d) (l : m ≡ length out) (z : s ≡ zeros (length out)) where
    filled : {g : (Option ℕ)} → f ≡ g → FilledAs (length out) (room_of out) (fractured_of edition L file) g d
    filled {g} p = subst (λ (f : Option ℕ). FilledAs (length out) (room_of out) (fractured_of edition L file) f d) p (subst (λ (m : ℕ). FilledAs m (room_of out) (fractured_of edition L file) f d) l h)

    pub fracture_no_room : f ≡ None → observed (refused 12 0) d s ≡ fracture_outcome edition L layer file out scratch
    fracture_no_room p =
        let k = filled p in
        let w : observed (refused 12 0) d s ≡ written (length out) fractured stage = rw (space_no_room (room_of out) (length (fractured_of edition L file)) k.0, k.1, z) in
        w ∙ fracture_written e

    -- the sets fit into the output, and with them written over it is done
    pub fracture_wide : {t : ℕ} → f ≡ Some t → length d ≡ m → memory_width * t ≤ length d
    fracture_wide p n = let k = filled p in omega (arith, k.0, k.1, n, l)

    pub fracture_done : {t : ℕ} → f ≡ Some t → {y : ℤ} → y ≡ single layer → {b : List ℤ} → b ≡ with_sources y t d → observed (done t 0) b s ≡ fracture_outcome edition L layer file out scratch
    fracture_done {t} p {y} q {b} r =
        let k = filled p in
        let ts = fractured_of edition L file in
        let c : t ≡ length fractured = k.0 ∙ sym (bearing-length (single layer) ts) in
        let is : b ≡ image sourced_codec (length out) fractured
        = r ∙ (λ j. with_sources (q j) (k.0 j) (k.2 j)) ∙ with_sources_image (single layer) (length out) ts in
        let w : observed (done t 0) b s ≡ written (length out) fractured stage = rw (space_enough (room_of out) (length ts) k.1, c, is, z) in
        w ∙ fracture_written e

    pub fracture_small : room_of out ≤ max_records → {t : ℕ} → f ≡ Some t → SmallAnswer (done t 0)
    fracture_small b p = let k = filled p in (omega (arith, k.0, k.1, b), omega arith)
