-- The two readers of polygon files as calls.
use mathlib.Core.Path.{◌≡◌, refl, sym, ap, ◌∙◌}
use mathlib.Core.Bool.{true}
use mathlib.Core.List.{List, [], ◌∷◌}
use Prim.Native.Nat.{ℕ}
use lib.ListN.{length}
use lib.IntN.{ℤ}
use Rattle.geometry.specs.Polygons.{Polygon}
use Rattle.sources.specs.Sets.{is_source_layer, single}
use Rattle.sources.specs.Sourced.{bearing}
use Rattle.boolean.specs.Space.{addition}
use Rattle.fracture.specs.Fracture.{fracture_all}
use Rattle.files.specs.declared.Edition.{Edition}
use Rattle.files.specs.declared.Edition.TheVariants.{First, New}
use Rattle.files.specs.Formats.{file_words}
use Rattle.files.specs.Contents.{polygons_of}
use Rattle.files.specs.Rows.{polygon_file_checked}
use Rattle.files.specs.Editions.{file_filled_in}
use Rattle.files.specs.Outcomes.{Answer}
use Rattle.files.proofs.Editions.{same_polygons, reads_as_before, older_refuses, filled_in_reads}
use Rattle.calls.specs.Rows.{row, buffers_sized, fracture_checked}
use Rattle.calls.specs.Outcomes.{Outcome, outcome, fracture_outcome}
use Rattle.calls.specs.Editions.{Takes, BothFracture, FractureAsBefore, FirstEditionRefuses, FilledInFractures}
use Rattle.calls.proofs.Checks.{row_passed}
use Rattle.std.specs.Prelude.{Result, Ok, Err}
use Rattle.geometry.specs.declared.Refusal.{Refusal}

module _ (L layer : ℕ) (out scratch : List ℤ) where
  -- a call's outcome, of what its rows say and the polygons that it reads: these matter only where the rows find nothing
  abbrev outcome_of : Result (Unit {0}) Refusal → List Polygon → Outcome Answer
  outcome_of c ps = outcome c out scratch (bearing (single layer) (fracture_all L ps)) (addition (length (fracture_all L ps)) ∷ [])

  same_outcome : (c : Result (Unit {0}) Refusal) (ps qs : List Polygon) → (c ≡ Ok tt → ps ≡ qs) → outcome_of c ps ≡ outcome_of c qs
  same_outcome (Ok u) ps qs h = ap (outcome_of (Ok tt)) (h refl)
  same_outcome (Err refusal) ps qs h = refl

  rows : (edition : Edition) (file : List ℕ) → Takes edition L layer file out scratch → (buffers_sized (length out) (length scratch) ≡ true) × (is_source_layer layer ≡ true) × (polygon_file_checked edition L file ≡ Ok tt)
  unfolding fracture_checked
  rows edition file e =
      let h = row_passed 1 (buffers_sized (length out) (length scratch)) (row 14 (is_source_layer layer) (polygon_file_checked edition L file)) e in
      let k = row_passed 14 (is_source_layer layer) (polygon_file_checked edition L file) h.1 in
      (h.0, k.0, k.1)

pub both_fracture : BothFracture
unfolding fracture_outcome
both_fracture L layer file out scratch a b = λ j. outcome_of L layer out scratch ((b ∙ sym a) j) (same_polygons L L file (rows L layer out scratch First file a).2 (rows L layer out scratch New file b).2 j)

pub fracture_as_before : FractureAsBefore
unfolding fracture_outcome fracture_checked
fracture_as_before L layer file out scratch h =
    let e : fracture_checked New L layer file (length out) (length scratch) ≡ fracture_checked First L layer file (length out) (length scratch) = ap (λ (c : Result (Unit {0}) Refusal). row 1 (buffers_sized (length out) (length scratch)) (row 14 (is_source_layer layer) c)) (reads_as_before L file h) in
    ap (λ (c : Result (Unit {0}) Refusal). outcome_of L layer out scratch c (polygons_of New (file_words file))) e
    ∙ same_outcome L layer out scratch (fracture_checked First L layer file (length out) (length scratch)) (polygons_of New (file_words file)) (polygons_of First (file_words file))
    (λ p. same_polygons L L file (rows L layer out scratch First file p).2 (rows L layer out scratch New file (e ∙ p)).2)

pub first_edition_refuses : FirstEditionRefuses
unfolding fracture_outcome fracture_checked
first_edition_refuses L layer file out scratch i e l z =
    let h = rows L layer out scratch New file e in
    let r = older_refuses L L file i h.2 l z in
    record { place = r.place; first = r.first; is = rw (h.0, h.1, r.is) }

pub filled_in_fractures : FilledInFractures
unfolding fracture_outcome fracture_checked
filled_in_fractures L layer file out scratch bytes e edition =
    let h = rows L layer out scratch New file e in
    let r = filled_in_reads L file bytes h.2 edition in
    let c : fracture_checked edition L layer (file_filled_in file) (length out) (length scratch) ≡ fracture_checked New L layer file (length out) (length scratch) = ap (λ (c : Result (Unit {0}) Refusal). row 1 (buffers_sized (length out) (length scratch)) (row 14 (is_source_layer layer) c)) (r.0 ∙ sym h.2) in
    λ j. outcome_of L layer out scratch (c j) (r.1 j)
