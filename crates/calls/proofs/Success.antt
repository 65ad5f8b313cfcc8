-- What a success gives: the layers that it was lent are fit and, where row 13 is checked, disjoint, and its records are the words of the result, which is fit too.
use mathlib.Core.Path.{◌≡◌, refl, sym, ◌∙◌, ap, subst}
use mathlib.Core.List.{List, []}
use Prim.Native.Nat.{ℕ, ◌*◌, ◌%◌, ◌≤◌}
use native.Mathlib.Nat.{mul-mod_right}
use native.Mathlib.Omega.{arith}
use lib.Dec.{T, leb, eqb, le→leb, eqb_refl}
use lib.IntN.{ℤ}
use lib.ListN.{length}
use mir.Facts.{yes_and}
use Rattle.lists.specs.Lists.{All}
use Rattle.lists.proofs.Lists.{all_of}
use Rattle.records.specs.Limits.{memory_width, max_records, sized, max_words}
use Rattle.records.specs.Records.{words_of}
use Rattle.records.proofs.Records.{length_words, records_words}
use Rattle.records.proofs.Buffer.{image_take}
use Rattle.geometry.specs.declared.Trapezoid.{Trapezoid}
use Rattle.geometry.specs.Trapezoids.{layer_of, Disjoint}
use Rattle.geometry.specs.Fitness.{FitFor, first_refusal}
use Rattle.geometry.proofs.Fitness.{layer_exact}
use Rattle.sources.specs.Sourced.{Sourced, sourced_codec, sourced_of, shapes}
use Rattle.sources.proofs.Sourced.{sourced_faithful, shapes_of, shapes-length}
use Rattle.boolean.specs.Operations.{Code, code_at, result, deoverlapped}
use Rattle.boolean.specs.Sources.{sourced_result, sourced_deoverlapped}
use Rattle.boolean.specs.Space.{Stage, Space, enough, no_room, space, stages, deoverlapped_stages}
use Rattle.boolean.proofs.Kept.{result_fit, deoverlapped_fit}
use Rattle.boolean.proofs.Results.{result_disjoint}
use Rattle.boolean.proofs.Deoverlapping.{deoverlapped_disjoint}
use Rattle.boolean.proofs.Forgetting.{result_of, deoverlapped_of}
use Rattle.files.specs.Outcomes.{is_done}
use Rattle.calls.specs.Rows.{and_then, both_disjoint, combine_checked, deoverlap_checked}
use Rattle.calls.specs.Outcomes.{room_of, records_of, written, outcome, combined, deoverlap_outcome}
use Rattle.calls.specs.Statements.{WellFormed, FitAsInput}
use Rattle.calls.proofs.Room.{is_enough, result_room, deoverlapped_room}
use Rattle.calls.proofs.Checks.{combine_ready, deoverlap_ready}
use Rattle.calls.proofs.Overlaps.{and_passed, both_passed}
use Rattle.std.specs.Prelude.{Result, Ok, Err}
use Rattle.geometry.specs.declared.Refusal.{Refusal}

abbrev pub FitTrapezoids : ℕ → List Trapezoid → Type 0
FitTrapezoids L ts = All (FitFor L) ts

-- ---- what a success wrote
pub record Wrote (s : Space) (rs : List Sourced) (records : List ℤ) : Type 0 where
  pub room : T (is_enough s)
  pub is : records ≡ words_of sourced_codec rs

pub wrote : (n : ℕ) (rs : List Sourced) (s : Space) → T (is_done (written n rs s).answer) → Wrote s rs (records_of (written n rs s).answer (written n rs s).out)
wrote n rs (enough cuts) h = record { room = tt; is = image_take sourced_codec sourced_faithful.readable n rs }
wrote n rs (no_room cuts) h = absurd h

pub passed : (c : Result (Unit {0}) Refusal) (out scratch : List ℤ) (rs : List Sourced) (ms : List Stage) → T (is_done (outcome c out scratch rs ms).answer) → c ≡ Ok tt
passed (Ok u) out scratch rs ms h = refl
passed (Err refusal) out scratch rs ms h = absurd h

pub outcome_wrote : (c : Result (Unit {0}) Refusal) (out scratch : List ℤ) (rs : List Sourced) (ms : List Stage) → T (is_done (outcome c out scratch rs ms).answer)
    → Wrote (space (room_of out) ms) rs (records_of (outcome c out scratch rs ms).answer (outcome c out scratch rs ms).out)
outcome_wrote (Ok u) out scratch rs ms h = wrote (length out) rs (space (room_of out) ms) h
outcome_wrote (Err refusal) out scratch rs ms h = absurd h

-- ---- the words of a list of trapezoids with their sets
pub sourced_words : (rs : List Sourced) → sourced_of (words_of sourced_codec rs) ≡ rs
sourced_words rs = records_words sourced_codec sourced_faithful.readable rs (all_of (λ (r : Sourced). Unit {0}) (λ r. tt) rs)

pub layer_of_words : (rs : List Sourced) → layer_of (words_of sourced_codec rs) ≡ shapes rs
layer_of_words rs = sym (shapes_of (words_of sourced_codec rs)) ∙ ap shapes (sourced_words rs)

few_sized : (n : ℕ) → n ≤ max_records → T (sized (memory_width * n))
unfolding sized
few_sized n h =
    yes_and (eqb (memory_width * n % memory_width) 0) (leb (memory_width * n) max_words)
    (subst (λ (k : ℕ). T (eqb k 0)) (sym (mul-mod_right memory_width n)) (eqb_refl 0))
    (le→leb (memory_width * n) max_words (omega arith))

pub words_formed : (L : ℕ) (rs : List Sourced) → FitTrapezoids L (shapes rs) → length rs ≤ max_records → WellFormed L (words_of sourced_codec rs)
words_formed L rs h l =
    record {
      size = subst (λ (n : ℕ). T (sized n)) (sym (length_words sourced_codec sourced_faithful.readable rs)) (few_sized (length rs) l);
      rows = ap (first_refusal L 0) (layer_of_words rs) ∙ (layer_exact L 0 (shapes rs)).1 h;
    }

words_fit : (L : ℕ) (rs : List Sourced) → FitTrapezoids L (shapes rs) → Disjoint (shapes rs) → length rs ≤ max_records → FitAsInput L (words_of sourced_codec rs)
words_fit L rs h d l = record { formed = words_formed L rs h l; disjoint = subst Disjoint (sym (layer_of_words rs)) d }

-- as many with their sets as without
few_sourced : (rs : List Sourced) (ts : List Trapezoid) (n : ℕ) → shapes rs ≡ ts → length ts ≤ n → length rs ≤ n
few_sourced rs ts n e l = omega (arith, shapes-length rs, ap length e, l)

-- ---- a call of code c on A and B with the records R
pub record Accepted (L : ℕ) (c : Code) (A B R : List ℤ) : Type 0 where
  pub first : FitTrapezoids L (layer_of A)
  pub second : FitTrapezoids L (layer_of B)
  pub first_disjoint : Disjoint (layer_of A)
  pub second_disjoint : Disjoint (layer_of B)
  pub sets : sourced_of R ≡ sourced_result c (sourced_of A) (sourced_of B)
  pub is : layer_of R ≡ result c (layer_of A) (layer_of B)
  pub fit : FitAsInput L R

pub combined_accepted : (L code : ℕ) (A B out scratch : List ℤ) → T (is_done (combined L code A B out scratch).answer)
    → Accepted L (code_at code) A B (records_of (combined L code A B out scratch).answer (combined L code A B out scratch).out)
unfolding combined
combined_accepted L code A B out scratch h =
    let c = code_at code in
    let ts = result c (layer_of A) (layer_of B) in
    let rs = sourced_result c (sourced_of A) (sourced_of B) in
    let f = result_of c A B in
    let ms = stages c (layer_of A) (layer_of B) in
    let rows = combine_checked L code A B (length out) (length scratch) in
    let checked = and_then rows (both_disjoint A B) in
    let p = and_passed rows (both_disjoint A B) (passed checked out scratch rs ms h) in
    let r = combine_ready L code A B (length out) (length scratch) p.0 in
    let d = both_passed L A B r.first.fit r.second.fit p.1 in
    let w = outcome_wrote checked out scratch rs ms h in
    let l : length ts ≤ max_records = omega (arith, result_room (room_of out) c (layer_of A) (layer_of B) w.room, r.buffers.few) in
    record {
      first = r.first.fit;
      second = r.second.fit;
      first_disjoint = d.0;
      second_disjoint = d.1;
      sets = ap sourced_of w.is ∙ sourced_words rs;
      is = ap layer_of w.is ∙ layer_of_words rs ∙ f;
      fit =
          subst (FitAsInput L) (sym w.is)
          (words_fit L rs
          (subst (FitTrapezoids L) (sym f) (result_fit L (layer_of A) (layer_of B) r.first.fit r.second.fit c))
          (subst Disjoint (sym f) (result_disjoint L (layer_of A) (layer_of B) r.first.fit r.second.fit d.0 d.1 c))
          (few_sourced rs ts max_records f l));
    }

-- ---- a call that deoverlaps A, with the records R
pub record Deoverlaps (L : ℕ) (A R : List ℤ) : Type 0 where
  pub layer : FitTrapezoids L (layer_of A)
  pub sets : sourced_of R ≡ sourced_deoverlapped (sourced_of A)
  pub is : layer_of R ≡ deoverlapped (layer_of A)
  pub fit : FitAsInput L R

pub deoverlap_accepted : (L : ℕ) (A out scratch : List ℤ) → T (is_done (deoverlap_outcome L A out scratch).answer)
    → Deoverlaps L A (records_of (deoverlap_outcome L A out scratch).answer (deoverlap_outcome L A out scratch).out)
unfolding deoverlap_outcome
deoverlap_accepted L A out scratch h =
    let ts = deoverlapped (layer_of A) in
    let rs = sourced_deoverlapped (sourced_of A) in
    let f = deoverlapped_of A in
    let ms = deoverlapped_stages [] (layer_of A) in
    let checked = deoverlap_checked L A (length out) (length scratch) in
    let r = deoverlap_ready L A (length out) (length scratch) (passed checked out scratch rs ms h) in
    let w = outcome_wrote checked out scratch rs ms h in
    let l : length ts ≤ max_records = omega (arith, deoverlapped_room (room_of out) (layer_of A) w.room, r.buffers.few) in
    record {
      layer = r.layer.fit;
      sets = ap sourced_of w.is ∙ sourced_words rs;
      is = ap layer_of w.is ∙ layer_of_words rs ∙ f;
      fit =
          subst (FitAsInput L) (sym w.is)
          (words_fit L rs
          (subst (FitTrapezoids L) (sym f) (deoverlapped_fit L (layer_of A) r.layer.fit))
          (subst Disjoint (sym f) (deoverlapped_disjoint L (layer_of A) r.layer.fit))
          (few_sourced rs ts max_records f l));
    }
