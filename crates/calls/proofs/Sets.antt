-- The sets that a success wrote, and that they never influence anything else.
use mathlib.Core.Path.{◌≡◌, refl, sym, ap, ◌∙◌}
use mathlib.Core.Bool.{◌&&◌}
use mathlib.Core.List.{List, [], ◌++◌}
use Prim.Native.Nat.{ℕ, ◌+◌, ◌/◌}
use lib.Dec.{eqb}
use lib.IntN.{ℤ}
use lib.ListN.{length}
use Rattle.records.specs.Limits.{memory_width, sized}
use Rattle.geometry.specs.Points.{Point}
use Rattle.geometry.specs.Trapezoids.{layer_of, lies_in_layer}
use Rattle.geometry.specs.Fitness.{first_refusal}
use Rattle.sources.specs.Sets.{single}
use Rattle.sources.specs.Sourced.{Sourced, sourced_of, shapes, bearing}
use Rattle.sources.proofs.Sourced.{shapes-length}
use Rattle.overlay.specs.Overlaps.{first_overlap}
use Rattle.boolean.specs.Operations.{code_at, result, difference, deoverlapped, is_code}
use Rattle.boolean.specs.Sources.{sourced_result, sourced_deoverlapped}
use Rattle.boolean.specs.Space.{Stage, Space, enough, no_room, space, stages, deoverlapped_stages, equality_stages}
use Rattle.boolean.proofs.Forgetting.{result_of, deoverlapped_of}
use Rattle.connectivity.specs.Components.{component_numbers, component_count}
use Rattle.extraction.specs.Extraction.{triples, extraction_stages}
use Rattle.files.specs.Outcomes.{done}
use Rattle.calls.specs.Rows.{row, and_then, buffers_sized, point_passes, both_disjoint, combine_checked, deoverlap_checked, equal_checked, contains_checked}
use Rattle.calls.specs.Outcomes.{room_of, records_of, written, outcome, combined, deoverlap_outcome, compared_in, equality_outcome, equal_outcome, asked, contains_answer}
use Rattle.calls.specs.Components.{lists_sized, components_checked, counted, observed_components, count_outcome, components_outcome}
use Rattle.calls.specs.Transistors.{transistors_checked, transistors_outcome_of, transistors_outcome}
use Rattle.calls.specs.Statements.{FractureSets, combined_layer, CombineSets, deoverlapped_layer, DeoverlapSets, SameTrapezoids, SetsUnseen}
use Rattle.calls.proofs.Success.{wrote, layer_of_words, combined_accepted, deoverlap_accepted}
use Rattle.calls.proofs.Fracturing.{fracture_accepted}
use Rattle.std.specs.Prelude.{Result, Ok, Err}
use Rattle.geometry.specs.declared.Refusal.{Refusal}

-- ---- a success
pub fracture_sets : FractureSets
fracture_sets edition L layer file out scratch h =
    let k = fracture_accepted edition L layer file out scratch h in (k.is_source, k.sets ∙ ap (bearing (single layer)) (sym k.is))

pub combine_sets : CombineSets
combine_sets L code a b out scratch h = (combined_accepted L code a b out scratch h).sets

pub deoverlap_sets : DeoverlapSets
deoverlap_sets L a out scratch h = (deoverlap_accepted L a out scratch h).sets

-- ---- trapezoids with other sets
module _ (rs qs : List Sourced) (e : shapes rs ≡ shapes qs) where
  written_unseen : (n : ℕ) (s : Space)
      → ((written n rs s).answer ≡ (written n qs s).answer)
      × (layer_of (records_of (written n rs s).answer (written n rs s).out) ≡ layer_of (records_of (written n qs s).answer (written n qs s).out))
  written_unseen n (enough k) = (
    ap (λ (m : ℕ). done m k) (sym (shapes-length rs) ∙ ap length e ∙ shapes-length qs),
    ap layer_of (wrote n rs (enough k) tt).is ∙ layer_of_words rs ∙ e ∙ sym (layer_of_words qs) ∙ sym (ap layer_of (wrote n qs (enough k) tt).is),
  )
  written_unseen n (no_room k) = (refl, refl)

  outcome_unseen : (c : Result (Unit {0}) Refusal) (out scratch : List ℤ) (ms : List Stage)
      → ((outcome c out scratch rs ms).answer ≡ (outcome c out scratch qs ms).answer)
      × (layer_of (records_of (outcome c out scratch rs ms).answer (outcome c out scratch rs ms).out)
      ≡ layer_of (records_of (outcome c out scratch qs ms).answer (outcome c out scratch qs ms).out))
  outcome_unseen (Ok u) out scratch ms = written_unseen (length out) (space (room_of out) ms)
  outcome_unseen (Err refusal) out scratch ms = (refl, refl)

combine_unseen : (L code : ℕ) (a a' b b' out scratch : List ℤ) → SameTrapezoids a a' → SameTrapezoids b b'
    → ((combined L code a b out scratch).answer ≡ (combined L code a' b' out scratch).answer)
    × (layer_of (combined_layer L code a b out scratch) ≡ layer_of (combined_layer L code a' b' out scratch))
unfolding combined combine_checked
combine_unseen L code a a' b b' out scratch h k =
    let rs = sourced_result (code_at code) (sourced_of a) (sourced_of b) in
    let qs = sourced_result (code_at code) (sourced_of a') (sourced_of b') in
    let ms = stages (code_at code) (layer_of a) (layer_of b) in
    let m : ms ≡ stages (code_at code) (layer_of a') (layer_of b') = λ j. stages (code_at code) (h.layer j) (k.layer j) in
    let c : and_then (combine_checked L code a b (length out) (length scratch)) (both_disjoint a b) ≡ and_then (combine_checked L code a' b' (length out) (length scratch)) (both_disjoint a' b') =
    λ j.
    and_then (row 1 (sized (h.size j) && (sized (k.size j) && buffers_sized (length out) (length scratch))) (row 2 (is_code code) (first_refusal L 0 (h.layer j ++ k.layer j))))
    (and_then (first_overlap 0 (h.layer j)) (first_overlap (length (h.layer j)) (k.layer j))) in
    let e : shapes rs ≡ shapes qs = result_of (code_at code) a b ∙ (λ j. result (code_at code) (h.layer j) (k.layer j)) ∙ sym (result_of (code_at code) a' b') in
    let u = outcome_unseen rs qs e (and_then (combine_checked L code a b (length out) (length scratch)) (both_disjoint a b)) out scratch ms in (
      u.0 ∙ (λ j. (outcome (c j) out scratch qs (m j)).answer),
      u.1 ∙ (λ j. layer_of (records_of (outcome (c j) out scratch qs (m j)).answer (outcome (c j) out scratch qs (m j)).out)),
    )

deoverlap_unseen : (L : ℕ) (a a' out scratch : List ℤ) → SameTrapezoids a a'
    → ((deoverlap_outcome L a out scratch).answer ≡ (deoverlap_outcome L a' out scratch).answer)
    × (layer_of (deoverlapped_layer L a out scratch) ≡ layer_of (deoverlapped_layer L a' out scratch))
unfolding deoverlap_outcome deoverlap_checked
deoverlap_unseen L a a' out scratch h =
    let rs = sourced_deoverlapped (sourced_of a) in
    let qs = sourced_deoverlapped (sourced_of a') in
    let ms = deoverlapped_stages [] (layer_of a) in
    let m : ms ≡ deoverlapped_stages [] (layer_of a') = λ j. deoverlapped_stages [] (h.layer j) in
    let c : deoverlap_checked L a (length out) (length scratch) ≡ deoverlap_checked L a' (length out) (length scratch) =
    λ j. row 1 (sized (h.size j) && buffers_sized (length out) (length scratch)) (first_refusal L 0 (h.layer j)) in
    let e : shapes rs ≡ shapes qs = deoverlapped_of a ∙ ap deoverlapped h.layer ∙ sym (deoverlapped_of a') in
    let u = outcome_unseen rs qs e (deoverlap_checked L a (length out) (length scratch)) out scratch ms in (
      u.0 ∙ (λ j. (outcome (c j) out scratch qs (m j)).answer),
      u.1 ∙ (λ j. layer_of (records_of (outcome (c j) out scratch qs (m j)).answer (outcome (c j) out scratch qs (m j)).out)),
    )

-- ---- calls that write no trapezoids
equal_unseen : (L : ℕ) (a a' b b' out scratch : List ℤ) → SameTrapezoids a a' → SameTrapezoids b b' → equal_outcome L a b out scratch ≡ equal_outcome L a' b' out scratch
unfolding equal_outcome equal_checked
equal_unseen L a a' b b' out scratch h k =
    λ j.
    equality_outcome
    (and_then (row 1 (sized (h.size j) && (sized (k.size j) && buffers_sized (length out) (length scratch))) (first_refusal L 0 (h.layer j ++ k.layer j)))
    (and_then (first_overlap 0 (h.layer j)) (first_overlap (length (h.layer j)) (k.layer j))))
    out scratch
    (compared_in (difference (h.layer j) (k.layer j)) (difference (k.layer j) (h.layer j)) (space (room_of out) (equality_stages (h.layer j) (k.layer j))))

contains_unseen : (L : ℕ) (P : Point) (a a' b b' : List ℤ) (code : ℕ) → SameTrapezoids a a' → SameTrapezoids b b' → contains_answer L P a b code ≡ contains_answer L P a' b' code
unfolding contains_answer contains_checked
contains_unseen L P a a' b b' code h k =
    λ j.
    asked
    (row 1 (sized (h.size j) && sized (k.size j)) (row 2 (is_code code) (row 3 (point_passes L P) (first_refusal L 0 (h.layer j ++ k.layer j)))))
    (lies_in_layer P (result (code_at code) (h.layer j) (k.layer j)))

components_unseen : (L : ℕ) (a a' : List ℤ) (numbers : List ℕ) → SameTrapezoids a a' → components_outcome L a numbers ≡ components_outcome L a' numbers
unfolding components_outcome components_checked lists_sized
components_unseen L a a' numbers h =
    λ j.
    count_outcome
    (and_then (row 1 (sized (h.size j) && eqb (length numbers) (h.size j / memory_width)) (first_refusal L 0 (h.layer j))) (first_overlap 0 (h.layer j)))
    (observed_components (counted (component_count (h.layer j))) (component_numbers (h.layer j))) numbers

transistors_unseen : (L : ℕ) (c c' b b' e e' : List ℤ) (list : List ℕ) (out scratch : List ℤ) → SameTrapezoids c c' → SameTrapezoids b b' → SameTrapezoids e e'
    → transistors_outcome L c b e list out scratch ≡ transistors_outcome L c' b' e' list out scratch
unfolding transistors_outcome transistors_checked
transistors_unseen L c c' b b' e e' list out scratch h k l =
    λ j.
    transistors_outcome_of
    (and_then
    (row 1 (sized (h.size j) && (sized (k.size j) && (sized (l.size j) && buffers_sized (length out) (length scratch)))) (first_refusal L 0 (h.layer j ++ (k.layer j ++ l.layer j))))
    (and_then (and_then (first_overlap 0 (h.layer j)) (first_overlap (length (h.layer j)) (k.layer j))) (first_overlap (length (h.layer j) + length (k.layer j)) (l.layer j))))
    (triples (h.layer j) (k.layer j) (l.layer j)) (space (room_of out) (extraction_stages (h.layer j) (k.layer j) (l.layer j))) list out scratch

pub sets_unseen : SetsUnseen
sets_unseen =
    record { combine = combine_unseen; deoverlap = deoverlap_unseen; equal = equal_unseen; contains = contains_unseen; components = components_unseen; transistors = transistors_unseen }
