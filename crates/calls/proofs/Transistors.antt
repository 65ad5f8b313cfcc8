-- The transistors of three layers: what follows once the rows let a call pass or refuse it, its ways out, and what a success means.
use mathlib.Core.Path.{◌≡◌, refl, sym, ◌∙◌, subst}
use mathlib.Core.Bool.{Bool, true, false, ◌&&◌}
use mathlib.Core.List.{List, ◌++◌}
use mathlib.Core.Logic.{◌⊎◌, inl, inr}
use Prim.Native.Nat.{ℕ, ◌*◌, ◌<◌, ◌≤◌}
use native.Mathlib.Omega.{arith}
use lib.Dec.{T}
use lib.ListN.{length, replicate, length-append}
use lib.IntN.{ℤ}
use borrow.Author.Tests.{le-leb, lt-leb}
use Rattle.lists.proofs.Conjunction.{and_left, and_right}
use Rattle.lists.proofs.Lists.{all_of, all_left, all_right}
use Rattle.records.specs.Limits.{sized}
use Rattle.records.specs.Records.{image}
use Rattle.records.proofs.Buffer.{image_records}
use Rattle.geometry.specs.Trapezoids.{layer_of, Disjoint}
use Rattle.geometry.specs.Fitness.{FitFor}
use Rattle.geometry.proofs.Refusals.{SmallChecked, small_first}
use Rattle.geometry.proofs.Fitness.{layer_exact}
use Rattle.boolean.specs.Space.{Space, enough, no_room, space}
use Rattle.boolean.specs.Counts.{is_no_room}
use Rattle.extraction.specs.Extraction.{Triple, triples, extraction_stages, triple_codec}
use Rattle.extraction.specs.Statements.{TransistorsOf}
use Rattle.extraction.proofs.Codec.{triples_readable}
use Rattle.extraction.proofs.Triples.{transistors_exact}
use Rattle.files.specs.Outcomes.{refused, done}
use Rattle.calls.specs.Rows.{and_then, buffers_sized}
use Rattle.calls.specs.Outcomes.{zeros, room_of}
use Rattle.calls.specs.Transistors.{three_checked, three_disjoint, transistors_checked, TransistorsOutcome, observed_transistors, extracted_in, list_fits, transistors_outcome_of, transistors_outcome, first_triples, ExtractedExact}
use Rattle.calls.proofs.Checks.{row_passed, small_row, LayerFor, layer_ready, layer-length, Buffers, buffers_ready}
use Rattle.calls.proofs.Overlaps.{and_passed, three_passed}
use Rattle.std.specs.Prelude.{Result, Ok, Err}
use Rattle.geometry.specs.declared.Refusal.{Refusal}
use Rattle.geometry.specs.Refusals.{refused_by}

-- ---- passed
pub record TransistorsReady (L : ℕ) (c b e : List ℤ) (out scratch : ℕ) : Type 0 where
  pub collectors : LayerFor L c
  pub bases : LayerFor L b
  pub emitters : LayerFor L e
  pub buffers : Buffers out scratch

module _ (L : ℕ) (c b e : List ℤ) (out scratch : ℕ) where
  abbrev lengths : Bool
  lengths = sized (length c) && (sized (length b) && (sized (length e) && buffers_sized out scratch))

  module _ (s : lengths ≡ true) where
    first_sized : sized (length c) ≡ true
    first_sized = and_left (sized (length c)) _ s

    second_sized : sized (length b) ≡ true
    second_sized = and_left (sized (length b)) _ (and_right (sized (length c)) _ s)

    third_and_buffers : sized (length e) && buffers_sized out scratch ≡ true
    third_and_buffers = and_right (sized (length b)) _ (and_right (sized (length c)) _ s)

  pub transistors_ready : transistors_checked L c b e out scratch ≡ Ok tt → TransistorsReady L c b e out scratch
  unfolding transistors_checked
  transistors_ready p =
      let h = row_passed 1 lengths (three_checked L c b e) p in
      let s = h.0 in
      let f = (layer_exact L 0 (layer_of c ++ (layer_of b ++ layer_of e))).0 h.1 in
      let g = all_right (FitFor L) (layer_of c) (layer_of b ++ layer_of e) f in
      record {
        collectors = layer_ready L c (first_sized s) (all_left (FitFor L) (layer_of c) (layer_of b ++ layer_of e) f);
        bases = layer_ready L b (second_sized s) (all_left (FitFor L) (layer_of b) (layer_of e) g);
        emitters = layer_ready L e (and_left (sized (length e)) _ (third_and_buffers s)) (all_right (FitFor L) (layer_of b) (layer_of e) g);
        buffers = buffers_ready out scratch (and_right (sized (length e)) _ (third_and_buffers s));
      }

  pub transistors_buffers : transistors_checked L c b e out scratch ≡ Ok tt → buffers_sized out scratch ≡ true
  unfolding transistors_checked
  transistors_buffers p = and_right (sized (length e)) _ (third_and_buffers (row_passed 1 lengths (three_checked L c b e) p).0)

  -- ---- refused
  pub transistors_refused : SmallChecked (transistors_checked L c b e out scratch)
  unfolding transistors_checked
  transistors_refused =
      small_row 1 (omega arith) lengths (three_checked L c b e) (λ s.
      let m = length-append (layer_of c) (layer_of b ++ layer_of e) in
      let n = length-append (layer_of b) (layer_of e) in
      small_first L 0 (layer_of c ++ (layer_of b ++ layer_of e))
      (omega (arith, m, n, layer-length c (first_sized s), layer-length b (second_sized s), layer-length e (and_left (sized (length e)) _ (third_and_buffers s)))))

-- ---- the ways out
none_listed : (n : ℕ) (ts : List Triple) (fits : Bool) (s : Space) (out scratch : ℕ) → T (is_no_room s) ⊎ (fits ≡ false)
    → observed_transistors (refused 12 0) (replicate n 0) (zeros out) (zeros scratch) ≡ extracted_in n ts fits s out scratch
none_listed n ts true (enough k) out scratch (inl h) = absurd h
none_listed n ts true (enough k) out scratch (inr h) = let z : ◌≡◌ {A = ℕ} 0 1 = cc in absurd (omega arith)
none_listed n ts true (no_room k) out scratch h = refl
none_listed n ts false (enough k) out scratch h = refl
none_listed n ts false (no_room k) out scratch h = refl

module _ (c b e : List ℤ) (list : List ℕ) (out scratch : List ℤ) where
  abbrev found : List Triple
  found = triples (layer_of c) (layer_of b) (layer_of e)

  abbrev needed : Space
  needed = space (room_of out) (extraction_stages (layer_of c) (layer_of b) (layer_of e))

  -- what row 13 makes of it
  abbrev pub searched : TransistorsOutcome
  searched = transistors_outcome_of (three_disjoint c b e) found needed list out scratch

  pub searched_refused : {n p : ℕ} → three_disjoint c b e ≡ refused_by n p → observed_transistors (refused n p) list out scratch ≡ searched
  searched_refused h = rw h

  module _ (p : three_disjoint c b e ≡ Ok tt) where
    passes : extracted_in (length list) found (list_fits (length list) found) needed (length out) (length scratch) ≡ searched
    passes = rw p

    module _ (d : List ℕ) (o s : List ℤ) (y : o ≡ zeros (length out)) (z : s ≡ zeros (length scratch)) where
      pub transistors_no_room : T (is_no_room needed) ⊎ (length list < 3 * length found) → d ≡ replicate (length list) 0
          → observed_transistors (refused 12 0) d o s ≡ searched
      transistors_no_room h x = (λ j. observed_transistors (refused 12 0) (x j) (y j) (z j)) ∙ none_listed (length list) found (list_fits (length list) found) needed (length out) (length scratch) (go h) ∙ passes
        where
          go : T (is_no_room needed) ⊎ (length list < 3 * length found) → T (is_no_room needed) ⊎ (list_fits (length list) found ≡ false)
          go (inl k) = inl k
          go (inr k) = inr (lt-leb (3 * length found) (length list) k)

      pub transistors_done : {k n : ℕ} → needed ≡ enough n → k ≡ length found → 3 * k ≤ length list → d ≡ image triple_codec (length list) found
          → observed_transistors (done k n) d o s ≡ searched
      transistors_done {k} {n} g l m x =
          let f = le-leb (3 * length found) (length list) (omega (arith, l, m)) in
          let w : observed_transistors (done (length found) n) (image triple_codec (length list) found) (zeros (length out)) (zeros (length scratch)) ≡ extracted_in (length list) found (list_fits (length list) found) needed (length out) (length scratch)
          = rw (f, g) in
          (λ j. observed_transistors (done (l j) n) (x j) (y j) (z j)) ∙ w ∙ passes

  module _ (L : ℕ) where
    pub transistors_refuses : {n p : ℕ} → transistors_checked L c b e (length out) (length scratch) ≡ refused_by n p → observed_transistors (refused n p) list out scratch ≡ transistors_outcome L c b e list out scratch
    unfolding transistors_outcome
    transistors_refuses h = rw h

    pub transistors_past : transistors_checked L c b e (length out) (length scratch) ≡ Ok tt → searched ≡ transistors_outcome L c b e list out scratch
    unfolding transistors_outcome
    transistors_past h = rw h

-- ---- what a success means
success : (m : ℕ) (ts : List Triple) (fits : Bool) (s : Space) (out scratch n overlays : ℕ) → (extracted_in m ts fits s out scratch).answer ≡ done n overlays
    → first_triples n (extracted_in m ts fits s out scratch).list ≡ ts
success m ts true (enough k) out scratch n overlays h =
    let l : length ts ≡ n = cc in
    subst (λ (k : ℕ). first_triples k (image triple_codec m ts) ≡ ts) l (image_records triple_codec triples_readable m ts (all_of (λ (t : Triple). Unit {0}) (λ t. tt) ts))
success m ts true (no_room k) out scratch n overlays h = let z : ◌≡◌ {A = ℕ} 0 1 = cc in absurd (omega arith)
success m ts false (enough k) out scratch n overlays h = let z : ◌≡◌ {A = ℕ} 0 1 = cc in absurd (omega arith)
success m ts false (no_room k) out scratch n overlays h = let z : ◌≡◌ {A = ℕ} 0 1 = cc in absurd (omega arith)

module _ (L : ℕ) (c b e : List ℤ) (list : List ℕ) (out scratch : List ℤ) (n overlays : ℕ) where
  abbrev rows : Result (Unit {0}) Refusal
  rows = transistors_checked L c b e (length out) (length scratch)

  abbrev outcome_of : Result (Unit {0}) Refusal → TransistorsOutcome
  outcome_of v = transistors_outcome_of v (found c b e list out scratch) (needed c b e list out scratch) list out scratch

  let_pass : (v : Result (Unit {0}) Refusal) → (outcome_of v).answer ≡ done n overlays → v ≡ Ok tt
  let_pass (Ok u) g = refl
  let_pass (Err refusal) g = let z : ◌≡◌ {A = ℕ} 0 1 = cc in absurd (omega arith)

  module _ (h : (transistors_outcome L c b e list out scratch).answer ≡ done n overlays) where
    both : (rows ≡ Ok tt) × (three_disjoint c b e ≡ Ok tt)
    unfolding transistors_outcome
    both = and_passed rows (three_disjoint c b e) (let_pass (and_then rows (three_disjoint c b e)) h)

    ready : TransistorsReady L c b e (length out) (length scratch)
    ready = transistors_ready L c b e (length out) (length scratch) both.0

    pub transistors_disjoint : Disjoint (layer_of c) × Disjoint (layer_of b) × Disjoint (layer_of e)
    transistors_disjoint = three_passed L c b ready.collectors.fit ready.bases.fit e ready.emitters.fit both.1

pub extracted_exact : ExtractedExact
unfolding transistors_outcome
extracted_exact L c b e list out scratch n overlays h = go checked (let_pass L c b e list out scratch n overlays checked h) h
  where
    ts : List Triple
    ts = triples (layer_of c) (layer_of b) (layer_of e)

    s : Space
    s = space (room_of out) (extraction_stages (layer_of c) (layer_of b) (layer_of e))

    checked : Result (Unit {0}) Refusal
    checked = and_then (transistors_checked L c b e (length out) (length scratch)) (three_disjoint c b e)

    go : (v : Result (Unit {0}) Refusal) → v ≡ Ok tt → (transistors_outcome_of v ts s list out scratch).answer ≡ done n overlays
        → TransistorsOf (layer_of c) (layer_of b) (layer_of e) (first_triples n (transistors_outcome_of v ts s list out scratch).list)
    go (Ok u) p g =
        let r = ready L c b e list out scratch n overlays h in
        subst (TransistorsOf (layer_of c) (layer_of b) (layer_of e)) (sym (success (length list) ts (list_fits (length list) ts) s (length out) (length scratch) n overlays g))
        (transistors_exact L (layer_of c) (layer_of b) (layer_of e) r.collectors.fit r.bases.fit r.emitters.fit)
    go (Err refusal) p g = let z : ◌≡◌ {A = ℕ} 0 1 = cc in absurd (omega arith)
