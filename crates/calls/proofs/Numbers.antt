-- The numbers of refusals: rows 1 to 11 have none above 11, and past them and row 13 only 12 is met.
use mathlib.Core.Path.{◌≡◌, refl}
use mathlib.Core.Bool.{Bool, true, false, ◌&&◌}
use mathlib.Core.List.{List, [], ◌∷◌, ◌++◌}
use Prim.Native.Nat.{ℕ, ◌+◌, ◌≤◌}
use native.Mathlib.Omega.{arith}
use lib.ListN.{length}
use lib.IntN.{ℤ}
use Rattle.records.specs.Limits.{sized}
use Rattle.geometry.specs.declared.Trapezoid.{Trapezoid}
use Rattle.geometry.specs.Trapezoids.{layer_of, Disjoint}
use Rattle.geometry.specs.Fitness.{verdict, refuse, first_refusal}
use Rattle.geometry.proofs.Fitness.{row_exact}
use Rattle.overlay.specs.Overlaps.{first_overlap}
use Rattle.overlay.proofs.Search.{first_overlap_exact}
use Rattle.sources.specs.Sourced.{Sourced, sourced_of}
use Rattle.boolean.specs.Operations.{code_at, difference, is_code}
use Rattle.boolean.specs.Sources.{sourced_result}
use Rattle.boolean.specs.Space.{Stage, Space, enough, no_room, space, stages, equality_stages}
use Rattle.extraction.specs.Extraction.{Triple, triples, extraction_stages}
use Rattle.files.specs.Outcomes.{refused}
use Rattle.calls.specs.Answers.{refused_equality}
use Rattle.calls.specs.Rows.{row, and_then, buffers_sized, both_checked, both_disjoint, combine_checked, equal_checked}
use Rattle.calls.specs.Outcomes.{room_of, written, outcome, combined, compared, compared_in, equality_outcome, equal_outcome}
use Rattle.calls.specs.Components.{lists_sized, components_checked, refused_components, count_outcome, components_outcome}
use Rattle.calls.specs.Transistors.{three_checked, three_disjoint, transistors_checked, extracted_in, list_fits, transistors_outcome_of, transistors_outcome}
use Rattle.calls.specs.Disjoint.{DisjointTaken}
use Rattle.calls.proofs.Checks.{combine_ready, equal_ready}
use Rattle.calls.proofs.Components.{passed_fit, computed}
use Rattle.calls.proofs.Transistors.{transistors_ready}
use Rattle.calls.proofs.Overlaps.{both_pass, three_pass}
use Rattle.std.specs.Prelude.{Result, Ok, Err}
use Rattle.geometry.specs.declared.Refusal.{Refusal}

-- ---- no number above 11
abbrev UpTo11 : Result (Unit {0}) Refusal → Type 0
UpTo11 (Ok u) = Unit {0}
UpTo11 (Err refusal) = refusal.number ≤ 11

row_up : (n : ℕ) → n ≤ 11 → (b : Bool) (c : Result (Unit {0}) Refusal) → UpTo11 c → UpTo11 (row n b c)
row_up n l true c h = h
row_up n l false c h = l

refuse_up : (L i : ℕ) (t : Trapezoid) (v : Result (Unit {0}) ℕ) (c : Result (Unit {0}) Refusal) → verdict L t ≡ v → UpTo11 c → UpTo11 (refuse v i c)
refuse_up L i t (Ok u) c e h = h
refuse_up L i t (Err n) c e h = ((row_exact L t).numbers n e).1

first_up : (L i : ℕ) (ts : List Trapezoid) → UpTo11 (first_refusal L i ts)
unfolding first_refusal
first_up L i [] = tt
first_up L i (t ∷ ts) = refuse_up L i t (verdict L t) (first_refusal L (i + 1) ts) refl (first_up L (i + 1) ts)

combine_up : (L code : ℕ) (a b : List ℤ) (out scratch : ℕ) → UpTo11 (combine_checked L code a b out scratch)
unfolding combine_checked
combine_up L code a b out scratch =
    row_up 1 (omega arith) (sized (length a) && (sized (length b) && buffers_sized out scratch)) (row 2 (is_code code) (both_checked L a b))
    (row_up 2 (omega arith) (is_code code) (both_checked L a b) (first_up L 0 (layer_of a ++ layer_of b)))

equal_up : (L : ℕ) (a b : List ℤ) (out scratch : ℕ) → UpTo11 (equal_checked L a b out scratch)
unfolding equal_checked
equal_up L a b out scratch = row_up 1 (omega arith) (sized (length a) && (sized (length b) && buffers_sized out scratch)) (both_checked L a b) (first_up L 0 (layer_of a ++ layer_of b))

components_up : (L : ℕ) (a : List ℤ) (n : ℕ) → UpTo11 (components_checked L a n)
unfolding components_checked
components_up L a n = row_up 1 (omega arith) (lists_sized a n) (first_refusal L 0 (layer_of a)) (first_up L 0 (layer_of a))

transistors_up : (L : ℕ) (c b e : List ℤ) (out scratch : ℕ) → UpTo11 (transistors_checked L c b e out scratch)
unfolding transistors_checked
transistors_up L c b e out scratch =
    row_up 1 (omega arith) (sized (length c) && (sized (length b) && (sized (length e) && buffers_sized out scratch))) (three_checked L c b e) (first_up L 0 (layer_of c ++ (layer_of b ++ layer_of e)))

-- row 13 below them, where it lets pass what they let pass
and_up : (c d : Result (Unit {0}) Refusal) → UpTo11 c → (c ≡ Ok tt → d ≡ Ok tt) → UpTo11 (and_then c d)
and_up (Ok u) d h f = let e = f refl in rw e tt
and_up (Err refusal) d h f = h

-- ---- the answers
over : {n : ℕ} → n ≤ 11 → n ≡ 13 → ⊥
over l e = omega (arith, l, e)

other : ◌≡◌ {A = ℕ} 12 13 → ⊥
other e = omega (arith, e)

module _ (place : ℕ) where
  written_not : (n : ℕ) (rs : List Sourced) (s : Space) → (written n rs s).answer ≡ refused 13 place → ⊥
  written_not n rs (enough k) e = let z : ◌≡◌ {A = ℕ} 0 1 = cc in absurd (omega arith)
  written_not n rs (no_room k) e = let z : ◌≡◌ {A = ℕ} 12 13 = cc in other z

  outcome_not : (c : Result (Unit {0}) Refusal) (out scratch : List ℤ) (rs : List Sourced) (ms : List Stage) → UpTo11 c → (outcome c out scratch rs ms).answer ≡ refused 13 place → ⊥
  outcome_not (Ok u) out scratch rs ms h e = written_not (length out) rs (space (room_of out) ms) e
  outcome_not (Err refusal) out scratch rs ms h e = let z : refusal.number ≡ 13 = cc in over h z

  compared_not : (ts us : List Trapezoid) (k : ℕ) → compared ts us k ≡ refused_equality 13 place → ⊥
  compared_not [] [] k e = let z : ◌≡◌ {A = ℕ} 0 1 = cc in absurd (omega arith)
  compared_not [] (u ∷ us) k e = let z : ◌≡◌ {A = ℕ} 0 1 = cc in absurd (omega arith)
  compared_not (t ∷ ts) us k e = let z : ◌≡◌ {A = ℕ} 0 1 = cc in absurd (omega arith)

  compared_in_not : (ts us : List Trapezoid) (s : Space) → compared_in ts us s ≡ refused_equality 13 place → ⊥
  compared_in_not ts us (enough k) e = compared_not ts us k e
  compared_in_not ts us (no_room k) e = let z : ◌≡◌ {A = ℕ} 12 13 = cc in other z

  equality_not : (c : Result (Unit {0}) Refusal) (out scratch : List ℤ) (ts us : List Trapezoid) (s : Space) → UpTo11 c → (equality_outcome c out scratch (compared_in ts us s)).answer ≡ refused_equality 13 place → ⊥
  equality_not (Ok u) out scratch ts us s h e = compared_in_not ts us s e
  equality_not (Err refusal) out scratch ts us s h e = let z : refusal.number ≡ 13 = cc in over h z

  extracted_not : (n : ℕ) (ts : List Triple) (fits : Bool) (s : Space) (out scratch : ℕ) → (extracted_in n ts fits s out scratch).answer ≡ refused 13 place → ⊥
  extracted_not n ts true (enough k) out scratch e = let z : ◌≡◌ {A = ℕ} 0 1 = cc in absurd (omega arith)
  extracted_not n ts false (enough k) out scratch e = let z : ◌≡◌ {A = ℕ} 12 13 = cc in other z
  extracted_not n ts fits (no_room k) out scratch e = let z : ◌≡◌ {A = ℕ} 12 13 = cc in other z

  transistors_not : (c : Result (Unit {0}) Refusal) (ts : List Triple) (s : Space) (list : List ℕ) (out scratch : List ℤ) → UpTo11 c → (transistors_outcome_of c ts s list out scratch).answer ≡ refused 13 place → ⊥
  transistors_not (Ok u) ts s list out scratch h e = extracted_not (length list) ts (list_fits (length list) ts) s (length out) (length scratch) e
  transistors_not (Err refusal) ts s list out scratch h e = let z : refusal.number ≡ 13 = cc in over h z

-- ---- the calls
combine_taken : (L code : ℕ) (a b out scratch : List ℤ) → Disjoint (layer_of a) → Disjoint (layer_of b) → (place : ℕ) → (combined L code a b out scratch).answer ≡ refused 13 place → ⊥
unfolding combined
combine_taken L code a b out scratch d f place e =
    let rows = combine_checked L code a b (length out) (length scratch) in
    outcome_not place (and_then rows (both_disjoint a b)) out scratch (sourced_result (code_at code) (sourced_of a) (sourced_of b)) (stages (code_at code) (layer_of a) (layer_of b))
    (and_up rows (both_disjoint a b) (combine_up L code a b (length out) (length scratch)) (λ p.
    let r = combine_ready L code a b (length out) (length scratch) p in both_pass L a b r.first.fit r.second.fit d f)) e

equal_taken : (L : ℕ) (a b out scratch : List ℤ) → Disjoint (layer_of a) → Disjoint (layer_of b) → (place : ℕ) → (equal_outcome L a b out scratch).answer ≡ refused_equality 13 place → ⊥
unfolding equal_outcome
equal_taken L a b out scratch d f place e =
    let rows = equal_checked L a b (length out) (length scratch) in
    equality_not place (and_then rows (both_disjoint a b)) out scratch (difference (layer_of a) (layer_of b)) (difference (layer_of b) (layer_of a)) (space (room_of out) (equality_stages (layer_of a) (layer_of b)))
    (and_up rows (both_disjoint a b) (equal_up L a b (length out) (length scratch)) (λ p.
    let r = equal_ready L a b (length out) (length scratch) p in both_pass L a b r.first.fit r.second.fit d f)) e

components_taken : (L : ℕ) (a : List ℤ) (numbers : List ℕ) → Disjoint (layer_of a) → (place : ℕ) → (components_outcome L a numbers).answer ≡ refused_components 13 place → ⊥
unfolding components_outcome
components_taken L a numbers d place e =
    let rows = components_checked L a (length numbers) in
    components_not (and_then rows (first_overlap 0 (layer_of a)))
    (and_up rows (first_overlap 0 (layer_of a)) (components_up L a (length numbers)) (λ p. (first_overlap_exact L 0 (layer_of a) (passed_fit L a numbers p)).passed.1 d)) e
  where
    components_not : (c : Result (Unit {0}) Refusal) → UpTo11 c → (count_outcome c (computed a) numbers).answer ≡ refused_components 13 place → ⊥
    components_not (Ok u) h e = let z : ◌≡◌ {A = ℕ} 0 1 = cc in absurd (omega arith)
    components_not (Err refusal) h e = let z : refusal.number ≡ 13 = cc in over h z

transistors_taken : (L : ℕ) (c b e : List ℤ) (list : List ℕ) (out scratch : List ℤ) → Disjoint (layer_of c) → Disjoint (layer_of b) → Disjoint (layer_of e)
    → (place : ℕ) → (transistors_outcome L c b e list out scratch).answer ≡ refused 13 place → ⊥
unfolding transistors_outcome
transistors_taken L c b e list out scratch d f g place h =
    let rows = transistors_checked L c b e (length out) (length scratch) in
    transistors_not place (and_then rows (three_disjoint c b e)) (triples (layer_of c) (layer_of b) (layer_of e)) (space (room_of out) (extraction_stages (layer_of c) (layer_of b) (layer_of e))) list out scratch
    (and_up rows (three_disjoint c b e) (transistors_up L c b e (length out) (length scratch)) (λ p.
    let r = transistors_ready L c b e (length out) (length scratch) p in three_pass L c b r.collectors.fit r.bases.fit e r.emitters.fit d f g)) h

pub disjoint_taken : DisjointTaken
disjoint_taken = record { combine = combine_taken; equal = equal_taken; components = components_taken; transistors = transistors_taken }
