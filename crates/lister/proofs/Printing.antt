-- What is printed goes by what the calls answered and wrote; what buffers held before makes no difference.
use mathlib.Core.Path.{◌≡◌, refl, sym, ◌∙◌, ap, subst}
use mathlib.Core.List.{List, [], ◌∷◌}
use Prim.Native.Nat.{ℕ, ◌/◌, ◌*◌, ◌≤◌}
use native.Mathlib.Omega.{arith}
use lib.IntN.{ℤ}
use lib.ListN.{length, take, drop, length-append}
use Rattle.records.specs.Limits.{memory_width, max_words}
use Rattle.geometry.specs.Trapezoids.{layer_of}
use Rattle.sources.specs.Sets.{single}
use Rattle.sources.specs.Sourced.{Sourced, sourced_of, bearing}
use Rattle.boolean.specs.Sources.{sourced_deoverlapped}
use Rattle.boolean.specs.Space.{Stage, addition, space, deoverlapped_stages}
use Rattle.files.specs.declared.Edition.TheVariants.{New}
use Rattle.files.specs.Outcomes.{Answer}
use Rattle.calls.specs.declared.Fractured.{Fractured}
use Rattle.calls.specs.declared.Fractured.TheVariants as fractured
use Rattle.calls.specs.declared.Deoverlapped.{Deoverlapped}
use Rattle.calls.specs.declared.Deoverlapped.TheVariants as after-deoverlap
use Rattle.calls.specs.Answers.{fractured_answer, deoverlapped_answer}
use Rattle.calls.specs.Rows.{plate_limit, fracture_checked, deoverlap_checked}
use Rattle.calls.specs.Outcomes.{Outcome, observed, written, outcome, fractured_of, fracture_outcome, deoverlap_outcome}
use Rattle.listing.specs.Listing.{listing, refusal_line}
use Rattle.listing.specs.Lister.{blank, printed_as, deoverlap_listed, listed_as, listed_by, listed}
use Rattle.listing.proofs.Blank.{blank-length}
use Rattle.lister.specs.Code.{Put}
use Rattle.std.specs.Prelude.{Result, Ok, Err}
use Rattle.geometry.specs.declared.Refusal.{Refusal}

-- the same text, put into a buffer
pub put_as : {s t : List ℕ} (d : List ℕ) (r : ℕ) (e : List ℕ) → s ≡ t → Put s d r e → Put t d r e
put_as d r e h p = subst (λ (x : List ℕ). Put x d r e) h p

pub put_within : (t d : List ℕ) (r : ℕ) (e : List ℕ) → Put t d r e → r ≤ length e
put_within t d r e (l, h) = omega (arith, l, ap length h, length-append t (drop r d))

-- ---- a layer deoverlapped
module _ (rs : List Sourced) (ms : List Stage) where
  printed_outcome : (c : Result (Unit {0}) Refusal) (out scratch : List ℤ) → length out ≡ max_words
      → printed_as (outcome c out scratch rs ms).answer (outcome c out scratch rs ms).out ≡ printed_as (outcome c blank blank rs ms).answer (outcome c blank blank rs ms).out
  printed_outcome (Err refusal) out scratch e = refl
  printed_outcome (Ok u) out scratch e =
      ap (λ (n : ℕ). printed_as (written n rs (space (n / memory_width) ms)).answer (written n rs (space (n / memory_width) ms)).out) (e ∙ sym blank-length)

  listed_outcome : (c : Result (Unit {0}) Refusal) (out scratch : List ℤ) → length out ≡ max_words
      → listed_as (outcome c out scratch rs ms).answer (outcome c out scratch rs ms).out ≡ listed_as (outcome c blank blank rs ms).answer (outcome c blank blank rs ms).out
  listed_outcome (Err refusal) out scratch e = refl
  listed_outcome (Ok u) out scratch e =
      ap (λ (n : ℕ). listed_as (written n rs (space (n / memory_width) ms)).answer (written n rs (space (n / memory_width) ms)).out) (e ∙ sym blank-length)

module _ (a out scratch : List ℤ) (m : length out ≡ max_words) (n : length scratch ≡ max_words) where
  checked_blank : deoverlap_checked plate_limit a (length out) (length scratch) ≡ deoverlap_checked plate_limit a (length blank) (length blank)
  checked_blank =
      ap (λ (k : ℕ). deoverlap_checked plate_limit a k (length scratch)) (m ∙ sym blank-length) ∙ ap (deoverlap_checked plate_limit a (length blank)) (n ∙ sym blank-length)

  deoverlap_printed : printed_as (deoverlap_outcome plate_limit a out scratch).answer (deoverlap_outcome plate_limit a out scratch).out ≡ deoverlap_listed a
  unfolding deoverlap_outcome deoverlap_listed
  deoverlap_printed =
      let rs = sourced_deoverlapped (sourced_of a) in
      let ms = deoverlapped_stages [] (layer_of a) in
      printed_outcome rs ms (deoverlap_checked plate_limit a (length out) (length scratch)) out scratch m
      ∙ ap (λ (c : Result (Unit {0}) Refusal). printed_as (outcome c blank blank rs ms).answer (outcome c blank blank rs ms).out) checked_blank

  module _ (answer : Deoverlapped) (o s : List ℤ) (e : observed (deoverlapped_answer answer) o s ≡ deoverlap_outcome plate_limit a out scratch) where
    answered : printed_as (deoverlapped_answer answer) o ≡ deoverlap_listed a
    answered = ap (λ (x : Outcome Answer). printed_as x.answer x.out) e ∙ deoverlap_printed

    pub layer_refused : (number place : ℕ) → answer ≡ after-deoverlap.Refused number place → refusal_line number place ≡ deoverlap_listed a
    layer_refused number place h = ap (λ (x : Deoverlapped). printed_as (deoverlapped_answer x) o) (sym h) ∙ answered

    pub layer_done : (pieces overlays : ℕ) → answer ≡ after-deoverlap.Done pieces overlays → listing pieces o ≡ deoverlap_listed a
    layer_done pieces overlays h = ap (λ (x : Deoverlapped). printed_as (deoverlapped_answer x) o) (sym h) ∙ answered

-- ---- a polygon file fractured
module _ (file : List ℕ) (out scratch : List ℤ) (m : length out ≡ max_words) (n : length scratch ≡ max_words) where
  fracture_blank : fracture_checked New plate_limit 0 file (length out) (length scratch) ≡ fracture_checked New plate_limit 0 file (length blank) (length blank)
  fracture_blank =
      ap (λ (k : ℕ). fracture_checked New plate_limit 0 file k (length scratch)) (m ∙ sym blank-length) ∙ ap (fracture_checked New plate_limit 0 file (length blank)) (n ∙ sym blank-length)

  fracture_listed : listed_as (fracture_outcome New plate_limit 0 file out scratch).answer (fracture_outcome New plate_limit 0 file out scratch).out ≡ listed file
  unfolding fracture_outcome listed_by
  fracture_listed =
      let ts = fractured_of New plate_limit file in
      let rs = bearing (single 0) ts in
      let ms = addition (length ts) ∷ [] in
      listed_outcome rs ms (fracture_checked New plate_limit 0 file (length out) (length scratch)) out scratch m
      ∙ ap (λ (c : Result (Unit {0}) Refusal). listed_as (outcome c blank blank rs ms).answer (outcome c blank blank rs ms).out) fracture_blank

  module _ (answer : Fractured) (o s : List ℤ) (e : observed (fractured_answer answer) o s ≡ fracture_outcome New plate_limit 0 file out scratch) where
    fractured_answer_lem : listed_as (fractured_answer answer) o ≡ listed file
    fractured_answer_lem = ap (λ (x : Outcome Answer). listed_as x.answer x.out) e ∙ fracture_listed

    pub file_refused : (number place : ℕ) → answer ≡ fractured.Refused number place → refusal_line number place ≡ listed file
    file_refused number place h = ap (λ (x : Fractured). listed_as (fractured_answer x) o) (sym h) ∙ fractured_answer_lem

    pub file_done : (pieces overlays : ℕ) → answer ≡ fractured.Done pieces overlays → deoverlap_listed (take (memory_width * pieces) o) ≡ listed file
    file_done pieces overlays h = ap (λ (x : Fractured). listed_as (fractured_answer x) o) (sym h) ∙ fractured_answer_lem
