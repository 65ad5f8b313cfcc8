-- What the reader and the writer of layers answer and leave, case by case.
use mathlib.Core.Path.{◌≡◌, refl, sym, ap, ◌∙◌, subst}
use mathlib.Core.List.{List, ◌++◌}
use Prim.Native.Nat.{ℕ, ◌*◌, ◌-◌, ◌/◌, ◌<◌, ◌≤◌}
use native.Mathlib.Omega.{arith}
use lib.ListN.{length, drop, replicate, length-replicate}
use lib.IntN.{ℤ, pos}
use Rattle.lists.proofs.Parts.{drop_replicate}
use Rattle.records.specs.Limits.{max_records}
use Rattle.records.specs.Records.{words_of}
use Rattle.records.specs.Words.{word_codec}
use Rattle.geometry.specs.Trapezoids.{trapezoid_codec}
use Rattle.geometry.specs.Fitness.{SmallRefusal}
use Rattle.geometry.proofs.Refusals.{SmallChecked}
use Rattle.files.specs.Formats.{file_words, layer_file, layer_words}
use Rattle.files.specs.Contents.{units_of, file_codec, memory_words, written_words}
use Rattle.files.specs.Rows.{layer_file_checked, layer_words_checked}
use Rattle.files.specs.Outcomes.{refused, done, observed_file, read_layers, write_layers}
use Rattle.files.proofs.Bounds.{units_bound}
use Rattle.files.proofs.Small.{layer_file_small, layer_words_small}
use Rattle.files.proofs.Answers.{refused_is, no_room_is, done_is}
use Rattle.files.proofs.Calls.{file_passes, length_bytes}
use Rattle.std.specs.Prelude.{Ok}
use Rattle.geometry.specs.Refusals.{refused_by}

-- ---- the reader
module _ (L : ℕ) (bs : List ℕ) (out : List ℤ) where
  pub read_refused : {number place : ℕ} → layer_file_checked L bs ≡ refused_by number place → (observed_file (refused number place) out ≡ read_layers L bs out) × SmallRefusal number place
  unfolding read_layers
  read_refused e = (refused_is (pos 0) (length (units_of file_codec (file_words bs))) (memory_words (file_words bs)) out e, subst SmallChecked e (layer_file_small L bs))

  module _ (e : layer_file_checked L bs ≡ Ok tt) {blank : List ℤ} (z : blank ≡ replicate (length out) (pos 0)) where
    long : length blank ≡ length out
    long = ap length z ∙ length-replicate (length out) (pos 0)

    pub read_no_room : length blank < length (memory_words (file_words bs)) → (observed_file (refused 12 0) blank ≡ read_layers L bs out) × SmallRefusal 12 0
    unfolding read_layers
    read_no_room h =
        (ap (observed_file (refused 12 0)) z ∙ no_room_is (pos 0) (length (units_of file_codec (file_words bs))) (memory_words (file_words bs)) out e (omega (arith, h, long)), (omega arith, omega arith))

    pub read_done : length (memory_words (file_words bs)) ≤ length blank → {d : List ℤ} → d ≡ memory_words (file_words bs) ++ drop (length (memory_words (file_words bs))) blank → {k : ℕ} → k ≡ length (units_of file_codec (file_words bs))
        → (observed_file (done k 0) d ≡ read_layers L bs out) × ((k ≤ max_records) × (0 < 4294967296))
    unfolding read_layers
    read_done h {d} p {k} q =
        let ws = memory_words (file_words bs) in
        let r : d ≡ ws ++ replicate (length out - length ws) (pos 0) = p ∙ ap (λ (t : List ℤ). ws ++ t) (ap (drop (length ws)) z ∙ drop_replicate (pos 0) (length ws) (length out)) in (
          (λ j. observed_file (done (q j) 0) (r j)) ∙ done_is (pos 0) (length (units_of file_codec (file_words bs))) ws out e (omega (arith, h, long)),
          (omega (arith, q, units_bound L layer_file file_codec (file_words bs) refl (omega arith) (file_passes L bs e).1), omega arith),
        )

-- ---- the writer
module _ (L : ℕ) (ws : List ℤ) (out : List ℕ) where
  pub write_refused : {number place : ℕ} → layer_words_checked L ws ≡ refused_by number place → (observed_file (refused number place) out ≡ write_layers L ws out) × SmallRefusal number place
  unfolding write_layers
  write_refused e = (refused_is 0 (length (units_of trapezoid_codec ws)) (words_of word_codec (written_words ws)) out e, subst SmallChecked e (layer_words_small L ws))

  module _ (e : layer_words_checked L ws ≡ Ok tt) {blank : List ℕ} (z : blank ≡ replicate (length out) 0) where
    blank_long : length blank ≡ length out
    blank_long = ap length z ∙ length-replicate (length out) 0

    pub write_no_room : length blank / 4 < length (written_words ws) → (observed_file (refused 12 0) blank ≡ write_layers L ws out) × SmallRefusal 12 0
    unfolding write_layers
    write_no_room h =
        (ap (observed_file (refused 12 0)) z ∙ no_room_is 0 (length (units_of trapezoid_codec ws)) (words_of word_codec (written_words ws)) out e (omega (arith, h, blank_long, length_bytes (written_words ws))), (omega arith, omega arith))

    pub write_done : length (written_words ws) ≤ length blank / 4 → {d : List ℕ} → d ≡ words_of word_codec (written_words ws) ++ drop (4 * length (written_words ws)) blank → {k : ℕ} → k ≡ length (units_of trapezoid_codec ws)
        → (observed_file (done k 0) d ≡ write_layers L ws out) × ((k ≤ max_records) × (0 < 4294967296))
    unfolding write_layers
    write_done h {d} p {k} q =
        let bs = words_of word_codec (written_words ws) in
        let l : 4 * length (written_words ws) ≡ length bs = sym (length_bytes (written_words ws)) in
        let r : d ≡ bs ++ replicate (length out - length bs) 0
        = p ∙ ap (λ (t : List ℕ). bs ++ t) (ap (drop (4 * length (written_words ws))) z ∙ drop_replicate 0 (4 * length (written_words ws)) (length out) ∙ ap (λ (n : ℕ). replicate (length out - n) 0) l) in (
          (λ j. observed_file (done (q j) 0) (r j)) ∙ done_is 0 (length (units_of trapezoid_codec ws)) bs out e (omega (arith, h, blank_long, l)),
          (omega (arith, q, units_bound L layer_words trapezoid_codec ws refl (omega arith) e), omega arith),
        )
