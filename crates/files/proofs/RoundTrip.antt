-- A layer file written and read back, and read and written back.
use mathlib.Core.Path.{◌≡◌, refl, sym, ap, ◌∙◌}
use mathlib.Core.Bool.{Bool, true, false, ◌&&◌}
use mathlib.Core.List.{List, ◌++◌, map}
use Prim.Native.Nat.{ℕ, ◌+◌, ◌*◌, ◌-◌, ◌/◌, ◌%◌, ◌≤◌}
use native.Mathlib.Omega.{arith}
use lib.Dec.{T, leb, eqb}
use lib.ListN.{length, take, replicate}
use lib.Seq.{take_at, take-append_seam}
use lib.IntN.{ℤ, pos}
use borrow.Author.Tests.{leb-true, eqb-true, le-leb, eq-eqb}
use Rattle.records.specs.Records.{words_of}
use Rattle.records.specs.Words.{word_codec}
use Rattle.records.proofs.Records.{records_words, words_records}
use Rattle.records.proofs.Words.{words_faithful}
use Rattle.geometry.specs.declared.Trapezoid.{Trapezoid}
use Rattle.geometry.specs.Trapezoids.{trapezoid_codec}
use Rattle.sources.specs.Sets.{empty}
use Rattle.sources.specs.Sourced.{bearing}
use Rattle.files.specs.Formats.{file_sized, file_words, layer_file, layer_words}
use Rattle.files.specs.Contents.{units_of, file_codec, layers_of, file_layers_of, sourced_layers_of, memory_words, written_words}
use Rattle.files.specs.Rows.{layers_checked, layer_file_checked, layer_words_checked}
use Rattle.files.specs.Outcomes.{FileOutcome, done, is_done, observed_file, placed, file_outcome, read_layers, write_layers}
use Rattle.files.specs.Statements.{bytes_written, words_read, WordsHold, WrittenReads, ReadWrites}
use Rattle.files.proofs.Right.{right}
use Rattle.files.proofs.Bounds.{passes, passes_more}
use Rattle.files.proofs.Answers.{done_is}
use Rattle.files.proofs.Calls.{file_passes, length_bytes}
use Rattle.files.proofs.Widths.{memory_units, memory_layers, memory_length, memory_back, memory_sets, memory_checked, written_directory, written_layers, written_units, written_checked}
use Rattle.files.proofs.WordSizes.{words_passed}
use Rattle.std.specs.Prelude.{Result, Ok, Err}
use Rattle.geometry.specs.declared.Refusal.{Refusal}

-- ---- a success
outcome_done : {W : Type 0} (c : Result (Unit {0}) Refusal) (z : W) (pieces : ℕ) (content out : List W) → T (is_done (file_outcome c z pieces content out).answer) → (c ≡ Ok tt) × (length content ≤ length out)
outcome_done (Err refusal) z pieces content out h = absurd h
outcome_done (Ok u) z pieces content out h = (refl, go (leb (length content) (length out)) refl h)
  where
    go : (t : Bool) → leb (length content) (length out) ≡ t → T (is_done (placed t z pieces content (length out)).answer) → length content ≤ length out
    go true e h = leb-true (length content) (length out) e
    go false e h = absurd h

-- what a success of the reader and of the writer is
module _ (L : ℕ) (bs : List ℕ) (out : List ℤ) (e : layer_file_checked L bs ≡ Ok tt) (h : length (memory_words (file_words bs)) ≤ length out) where
  read_is : observed_file (done (length (units_of file_codec (file_words bs))) 0) (memory_words (file_words bs) ++ replicate (length out - length (memory_words (file_words bs))) (pos 0)) ≡ read_layers L bs out
  unfolding read_layers
  read_is = done_is (pos 0) (length (units_of file_codec (file_words bs))) (memory_words (file_words bs)) out e h

  pub read_words : words_read L bs out ≡ memory_words (file_words bs)
  read_words =
      ap (λ (o : FileOutcome ℤ). take (length (memory_words (file_words bs))) o.out) (sym read_is)
      ∙ take-append_seam (memory_words (file_words bs)) (replicate (length out - length (memory_words (file_words bs))) (pos 0))

module _ (L : ℕ) (ws : List ℤ) (out : List ℕ) (e : layer_words_checked L ws ≡ Ok tt) (h : length (words_of word_codec (written_words ws)) ≤ length out) where
  pub write_is : observed_file (done (length (units_of trapezoid_codec ws)) 0) (words_of word_codec (written_words ws) ++ replicate (length out - length (words_of word_codec (written_words ws))) 0) ≡ write_layers L ws out
  unfolding write_layers
  write_is = done_is 0 (length (units_of trapezoid_codec ws)) (words_of word_codec (written_words ws)) out e h

  write_bytes : bytes_written L ws out ≡ words_of word_codec (written_words ws)
  write_bytes =
      ap (λ (o : FileOutcome ℕ). take (4 * length (written_words ws)) o.out) (sym write_is)
      ∙ take_at (words_of word_codec (written_words ws)) (replicate (length out - length (words_of word_codec (written_words ws))) 0) (4 * length (written_words ws)) (length_bytes (written_words ws))

pub read_passed : (L : ℕ) (bs : List ℕ) (out : List ℤ) → T (is_done (read_layers L bs out).answer) → (layer_file_checked L bs ≡ Ok tt) × (length (memory_words (file_words bs)) ≤ length out)
unfolding read_layers
read_passed L bs out h = outcome_done (layer_file_checked L bs) (pos 0) (length (units_of file_codec (file_words bs))) (memory_words (file_words bs)) out h

pub write_passed : (L : ℕ) (ws : List ℤ) (out : List ℕ) → T (is_done (write_layers L ws out).answer) → (layer_words_checked L ws ≡ Ok tt) × (length (words_of word_codec (written_words ws)) ≤ length out)
unfolding write_layers
write_passed L ws out h = outcome_done (layer_words_checked L ws) 0 (length (units_of trapezoid_codec ws)) (words_of word_codec (written_words ws)) out h

-- ---- words that pass, without their sets, are a file that passes
module _ (L : ℕ) (ws : List ℤ) (e : layers_checked L layer_file file_codec ws ≡ Ok tt) where
  size_fits : file_sized (length (words_of word_codec ws)) ≡ true
  unfolding file_sized
  size_fits =
      let r = right layer_file ws (passes L layer_file file_codec ws e).found in
      let b = length_bytes ws in
      rw (
        eq-eqb (length (words_of word_codec ws) % 4) 0 (omega (arith, b)),
        le-leb 4 (length (words_of word_codec ws)) (omega (arith, b, r.fit)),
        le-leb (length (words_of word_codec ws)) 65532 (omega (arith, b, r.end, r.most, r.units)),
      )

  back : WordsHold L → file_words (words_of word_codec ws) ≡ ws
  back hold = records_words word_codec words_faithful.readable ws (words_passed L hold ws e)

  written_passes : WordsHold L → (M : ℕ) → L ≤ M → layer_file_checked M (words_of word_codec ws) ≡ Ok tt
  unfolding layer_file_checked
  written_passes hold M l = rw (size_fits, back hold) (passes_more L layer_file file_codec ws e M l)

pub written_reads : WrittenReads
written_reads L M hold m ws out into d l =
    let p = write_passed L ws out d in
    let f = (passes L layer_words trapezoid_codec ws p.0).found in
    let vs = written_words ws in
    let q = written_checked L ws p.0 in
    let g = written_directory ws f in
    let b = write_bytes L ws out p.0 p.1 in
    let w = back L vs q hold in
    let c = written_passes L vs q hold M m in
    let same : length (memory_words vs) ≡ length ws = omega (arith, memory_length vs g, (right layer_words ws f).end) in
    let h : length (memory_words (file_words (words_of word_codec vs))) ≤ length into = omega (arith, same, ap (λ (t : List ℤ). length (memory_words t)) w) in
    let answers : (read_layers M (words_of word_codec vs) into).answer ≡ (write_layers L ws out).answer
    = ap (λ (o : FileOutcome ℤ). o.answer) (sym (read_is M (words_of word_codec vs) into c h))
    ∙ ap (λ (t : List ℤ). done (length (units_of file_codec t)) 0) w
    ∙ ap (λ (ts : List Trapezoid). done (length ts) 0) (written_units ws f)
    ∙ ap (λ (o : FileOutcome ℕ). o.answer) (write_is L ws out p.0 p.1) in
    let t = ap (λ (t : List ℕ). words_read M t into) b ∙ read_words M (words_of word_codec vs) into c h ∙ ap memory_words w in (
      ap (λ (t : List ℕ). (read_layers M t into).answer) b ∙ answers,
      ap (λ (t : List ℕ). file_layers_of (file_words t)) b ∙ ap file_layers_of w ∙ written_layers ws f,
      ap layers_of t ∙ memory_layers vs g ∙ written_layers ws f,
      ap sourced_layers_of t ∙ memory_sets vs g ∙ ap (map (bearing empty)) (written_layers ws f),
    )

-- ---- a file that passes is words that pass
pub whole : (bs : List ℕ) → file_sized (length bs) ≡ true → length bs ≡ 4 * (length bs / 4)
unfolding file_sized
whole bs e = go (eqb (length bs % 4) 0) refl e
  where
    go : (t : Bool) → eqb (length bs % 4) 0 ≡ t → t && (leb 4 (length bs) && leb (length bs) 65532) ≡ true → length bs ≡ 4 * (length bs / 4)
    go true p e = omega (arith, eqb-true (length bs % 4) 0 p)
    go false p e = let z : ◌≡◌ {A = ℕ} 0 1 = cc in absurd (omega arith)

pub read_writes : ReadWrites
read_writes L M m bs out into g d l =
    let p = read_passed L bs out d in
    let q = file_passes L bs p.0 in
    let f = (passes L layer_file file_codec (file_words bs) q.1).found in
    let ws = memory_words (file_words bs) in
    let c = memory_checked M (file_words bs) (passes_more L layer_file file_codec (file_words bs) q.1 M m) in
    let w = read_words L bs out p.0 p.1 in
    let b = ap (words_of word_codec) (memory_back (file_words bs) f) ∙ words_records word_codec words_faithful bs (length bs / 4) (whole bs q.0) g in
    let h : length (words_of word_codec (written_words ws)) ≤ length into = omega (arith, ap length b) in
    let answers : (write_layers M ws into).answer ≡ (read_layers L bs out).answer
    = ap (λ (o : FileOutcome ℕ). o.answer) (sym (write_is M ws into c h))
    ∙ ap (λ (ts : List Trapezoid). done (length ts) 0) (memory_units (file_words bs) f)
    ∙ ap (λ (o : FileOutcome ℤ). o.answer) (read_is L bs out p.0 p.1) in (
      ap (λ (t : List ℤ). (write_layers M t into).answer) w ∙ answers,
      ap (λ (t : List ℤ). bytes_written M t into) w ∙ write_bytes M ws into c h ∙ b,
      ap layers_of w ∙ memory_layers (file_words bs) f,
      ap sourced_layers_of w ∙ memory_sets (file_words bs) f,
    )
