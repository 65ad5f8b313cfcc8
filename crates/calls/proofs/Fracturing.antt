-- The call that fractures the polygons of a polygon file: what follows once its rows let it pass or refuse it, and what a success
-- gives.
use mathlib.Core.Path.{◌≡◌, sym, ◌∙◌, ap, subst}
use mathlib.Core.List.{List, [], ◌∷◌}
use Prim.Native.Nat.{ℕ, ◌≤◌, ◌<◌}
use native.Mathlib.Omega.{arith}
use lib.Dec.{T, lt→ltb}
use lib.ListN.{length}
use lib.IntN.{ℤ}
use borrow.Author.Tests.{ltb-true}
use Rattle.records.specs.Limits.{max_records}
use Rattle.geometry.specs.Trapezoids.{layer_of}
use Rattle.geometry.proofs.Refusals.{SmallChecked}
use Rattle.sources.specs.Sets.{source_layers, is_source_layer, single}
use Rattle.sources.specs.Sourced.{sourced_of, bearing}
use Rattle.sources.proofs.Sourced.{shapes-bearing, bearing-length}
use Rattle.boolean.specs.Space.{addition}
use Rattle.fracture.proofs.Fitness.{fracture_fit}
use Rattle.files.specs.declared.Edition.{Edition}
use Rattle.files.specs.Formats.{file_words}
use Rattle.files.specs.Contents.{polygons_of}
use Rattle.files.specs.Rows.{polygon_file_checked}
use Rattle.files.proofs.Small.{polygon_file_small}
use Rattle.files.proofs.Grid.{checked_grid}
use Rattle.files.specs.Outcomes.{is_done}
use Rattle.calls.specs.Rows.{row, buffers_sized, fracture_checked}
use Rattle.calls.specs.Outcomes.{room_of, records_of, fractured_of, fracture_outcome}
use Rattle.calls.specs.Statements.{WellFormed}
use Rattle.calls.proofs.Checks.{Buffers, row_passed, buffers_ready, small_row}
use Rattle.calls.proofs.Room.{addition_room}
use Rattle.calls.proofs.Success.{FitTrapezoids, passed, outcome_wrote, sourced_words, layer_of_words, words_formed}
use Rattle.std.specs.Prelude.{Ok}

pub record FractureReady (edition : Edition) (L layer : ℕ) (file : List ℕ) (out scratch : ℕ) : Type 0 where
  pub rows : polygon_file_checked edition L file ≡ Ok tt
  pub is_source : layer < source_layers
  pub buffers : Buffers out scratch

pub fracture_ready : (edition : Edition) (L layer : ℕ) (file : List ℕ) (out scratch : ℕ) → fracture_checked edition L layer file out scratch ≡ Ok tt → FractureReady edition L layer file out scratch
unfolding fracture_checked
fracture_ready edition L layer file out scratch e =
    let h = row_passed 1 (buffers_sized out scratch) (row 14 (is_source_layer layer) (polygon_file_checked edition L file)) e in
    let k = row_passed 14 (is_source_layer layer) (polygon_file_checked edition L file) h.1 in
    record { rows = k.1; is_source = ltb-true layer source_layers k.0; buffers = buffers_ready out scratch h.0 }

pub fracture_refused : (edition : Edition) (L layer : ℕ) (file : List ℕ) (out scratch : ℕ) → SmallChecked (fracture_checked edition L layer file out scratch)
unfolding fracture_checked
fracture_refused edition L layer file out scratch =
    small_row 1 (omega arith) (buffers_sized out scratch) (row 14 (is_source_layer layer) (polygon_file_checked edition L file)) (λ s.
    small_row 14 (omega arith) (is_source_layer layer) (polygon_file_checked edition L file) (λ i. polygon_file_small edition L file))

-- ---- a success, with the records R
pub record Fractures (edition : Edition) (L layer : ℕ) (file : List ℕ) (R : List ℤ) : Type 0 where
  pub is_source : T (is_source_layer layer)
  pub sets : sourced_of R ≡ bearing (single layer) (fractured_of edition L file)
  pub is : layer_of R ≡ fractured_of edition L file
  pub fit : 0 < L → WellFormed L R

pub fracture_accepted : (edition : Edition) (L layer : ℕ) (file : List ℕ) (out scratch : List ℤ) → T (is_done (fracture_outcome edition L layer file out scratch).answer)
    → Fractures edition L layer file (records_of (fracture_outcome edition L layer file out scratch).answer (fracture_outcome edition L layer file out scratch).out)
unfolding fracture_outcome
fracture_accepted edition L layer file out scratch h =
    let ts = fractured_of edition L file in
    let rs = bearing (single layer) ts in
    let ms = addition (length ts) ∷ [] in
    let checked = fracture_checked edition L layer file (length out) (length scratch) in
    let r = fracture_ready edition L layer file (length out) (length scratch) (passed checked out scratch rs ms h) in
    let w = outcome_wrote checked out scratch rs ms h in
    let l : length ts ≤ max_records = omega (arith, addition_room (room_of out) (length ts) w.room, r.buffers.few) in
    let e = shapes-bearing (single layer) ts in
    record {
      is_source = lt→ltb layer source_layers r.is_source;
      sets = ap sourced_of w.is ∙ sourced_words rs;
      is = ap layer_of w.is ∙ layer_of_words rs ∙ e;
      fit = λ p.
          subst (WellFormed L) (sym w.is)
          (words_formed L rs (subst (FitTrapezoids L) (sym e) (fracture_fit L (polygons_of edition (file_words file)) p (checked_grid edition L file r.rows))) (omega (arith, bearing-length (single layer) ts, l)));
    }
