-- The sizes of a layer file that passes and of its words in memory, and the parts of either put together.
use mathlib.Core.Path.{◌≡◌, refl, sym, ap, ◌∙◌}
use mathlib.Core.List.{List, ◌++◌, append_assoc}
use Prim.Native.Nat.{ℕ, ◌+◌, ◌*◌, ◌-◌, ◌/◌, ◌≤◌}
use native.Mathlib.Nat.{mul-div_cancel_left}
use native.Mathlib.Omega.{arith}
use lib.ListN.{length, take, drop, length-drop, length-append}
use lib.Seq.{take_at, drop_at, drop-drop, length-take-le}
use lib.IntN.{ℤ}
use borrow.Rule.Slice.PartMut.{put_mid, mid_of}
use Rattle.lists.proofs.Parts.{put_tail, mid_tail}
use Rattle.records.specs.Limits.{file_width, memory_width, max_records}
use Rattle.records.specs.Records.{records, words_of}
use Rattle.records.specs.Words.{word_codec}
use Rattle.records.proofs.Records.{words_append, length_words}
use Rattle.records.proofs.Words.{words_faithful}
use Rattle.geometry.specs.Trapezoids.{trapezoid_codec, layer_of}
use Rattle.files.specs.Formats.{file_words, layer_file, layer_words}
use Rattle.files.specs.Pairs.{count_in, body_of}
use Rattle.files.specs.Directory.{HasPairs}
use Rattle.files.specs.Contents.{units_of, file_codec, head_of, memory_words, written_words}
use Rattle.files.proofs.Reading.{length_file}
use Rattle.files.proofs.Right.{right, file_body}
use Rattle.files.proofs.Bounds.{units_are}
use Rattle.files.proofs.Widths.{memory_is, memory_length, written_is, written-length}

-- ---- sizes: the k words up to the body, and so many trapezoids
pub record FileSizes (bs : List ℕ) (k : ℕ) : Type 0 where
  pub total : ℕ
  pub few : k ≤ 33
  pub small : total ≤ max_records
  pub words : length bs / 4 ≡ k + file_width * total
  pub units : length (units_of file_codec (file_words bs)) ≡ total
  pub memory : length (memory_words (file_words bs)) ≡ k + memory_width * total

pub file_sizes : (bs : List ℕ) → HasPairs layer_file (file_words bs) (count_in (file_words bs)) → {k : ℕ} → k ≡ 2 * count_in (file_words bs) + 1 → FileSizes bs k
file_sizes bs h {k} e =
    let r = right layer_file (file_words bs) h.is in
    record {
      total = h.total;
      few = omega (arith, r.most, e);
      small = r.units;
      words = omega (arith, r.end, length_file bs, e);
      units = units_are layer_file file_codec (file_words bs) refl (omega arith) r;
      memory = omega (arith, memory_length (file_words bs) h.is, e);
    }

-- the same of words in memory
pub record WordSizes (ws : List ℤ) (k : ℕ) : Type 0 where
  pub total : ℕ
  pub few : k ≤ 33
  pub small : total ≤ max_records
  pub words : length ws ≡ k + memory_width * total
  pub units : length (units_of trapezoid_codec ws) ≡ total
  pub written : length (written_words ws) ≡ k + file_width * total

pub word_sizes : (ws : List ℤ) → HasPairs layer_words ws (count_in ws) → {k : ℕ} → k ≡ 2 * count_in ws + 1 → WordSizes ws k
word_sizes ws h {k} e =
    let r = right layer_words ws h.is in
    record {
      total = h.total;
      few = omega (arith, r.most, e);
      small = r.units;
      words = omega (arith, r.end, e);
      units = units_are layer_words trapezoid_codec ws refl (omega arith) r;
      written = omega (arith, written-length ws h.is, e);
    }

-- ---- a head, and a body laid into the part past it
module _ {A : Type 0} (k m : ℕ) (head body out d t : List A) (l : length head ≡ k) (f : k ≤ length out) (p : d ≡ head ++ drop k out) (q : t ≡ body ++ drop m (mid_of k (length d - k) d)) where
  past : mid_of k (length d - k) d ≡ drop k out
  past = mid_tail k d ∙ ap (drop k) p ∙ drop_at head (drop k out) k l

  pub put_together : put_mid k (length d - k) d t ≡ (head ++ body) ++ drop (k + m) out
  put_together =
      let long : k ≤ length d = omega (arith, ap length p, length-append head (drop k out), l) in
      let a : take k d ≡ head = ap (take k) p ∙ take_at head (drop k out) k l in
      let b : t ≡ body ++ drop (k + m) out = q ∙ ap (λ (s : List A). body ++ drop m s) past ∙ ap (λ (s : List A). body ++ s) (drop-drop m k out) in
      put_tail k d t long ∙ (λ j. a j ++ b j) ∙ sym (append_assoc head body (drop (k + m) out))

-- ---- the words up to the body, loaded to the front
module _ (ws out x : List ℤ) (k : ℕ) (l : k ≤ length out) where
  pub front_long : length x ≡ length (take k out) → length (x ++ drop k out) ≡ length out
  front_long e = omega (arith, e, length-append x (drop k out), length-take-le k out l, length-drop k out)

  pub front_loaded : x ≡ take (length (take k out)) ws → x ++ drop k out ≡ take k ws ++ drop k out
  front_loaded e = ap (λ (y : List ℤ). y ++ drop k out) (e ∙ ap (λ (n : ℕ). take n ws) (length-take-le k out l))

-- the words of a layer file in memory
module _ (bs : List ℕ) (h : HasPairs layer_file (file_words bs) (count_in (file_words bs))) {k : ℕ} (e : k ≡ 2 * count_in (file_words bs) + 1) where
  head_file : take k (file_words bs) ≡ head_of (file_words bs)
  head_file = ap (λ (j : ℕ). take j (file_words bs)) e

  body_file : file_words (mid_of (4 * k) (length bs - 4 * k) bs) ≡ body_of (file_words bs)
  body_file = ap (λ (j : ℕ). file_words (mid_of (4 * j) (length bs - 4 * j) bs)) e ∙ file_body bs (right layer_file (file_words bs) h.is)

  body_count : length (mid_of (4 * k) (length bs - 4 * k) bs) / 4 / file_width ≡ (file_sizes bs h e).total
  body_count =
      let z = file_sizes bs h e in
      let l = length-drop (4 * k) bs in
      let w : length (drop (4 * k) bs) / 4 ≡ file_width * z.total = omega (arith, l, z.words) in
      ap (λ (s : List ℕ). length s / 4 / file_width) (mid_tail (4 * k) bs) ∙ ap (λ (k : ℕ). k / file_width) w ∙ mul-div_cancel_left z.total (omega arith)

  pub decode_room : (out d : List ℤ) → length (memory_words (file_words bs)) ≤ length out → length d ≡ length out
      → memory_width * (length (mid_of (4 * k) (length bs - 4 * k) bs) / 4 / file_width) ≤ length (mid_of k (length d - k) d)
  decode_room out d room l = omega (arith, body_count, (file_sizes bs h e).memory, room, l, ap length (mid_tail k d), length-drop k d)

  pub decoded : (out d t : List ℤ) → length (memory_words (file_words bs)) ≤ length out → d ≡ take k (file_words bs) ++ drop k out
      → t ≡ words_of trapezoid_codec (records file_codec (file_words (mid_of (4 * k) (length bs - 4 * k) bs)))
      ++ drop (memory_width * (length (mid_of (4 * k) (length bs - 4 * k) bs) / 4 / file_width)) (mid_of k (length d - k) d)
      → put_mid k (length d - k) d t ≡ memory_words (file_words bs) ++ drop (length (memory_words (file_words bs))) out
  decoded out d t room p q =
      let z = file_sizes bs h e in
      let c = body_count in
      let m = memory_width * (length (mid_of (4 * k) (length bs - 4 * k) bs) / 4 / file_width) in
      let head = take k (file_words bs) in
      let body = words_of trapezoid_codec (records file_codec (file_words (mid_of (4 * k) (length bs - 4 * k) bs))) in
      let l : length head ≡ k = length-take-le k (file_words bs) (omega (arith, length_file bs, z.words)) in
      let is : head ++ body ≡ memory_words (file_words bs) = (λ j. head_file j ++ words_of trapezoid_codec (records file_codec (body_file j))) ∙ sym (memory_is (file_words bs)) in
      let long : k + m ≡ length (memory_words (file_words bs)) = omega (arith, z.memory, c) in
      put_together k m head body out d t l (omega (arith, z.memory, room)) p q ∙ (λ j. is j ++ drop (long j) out)

-- the bytes of a layer file's words
module _ (ws : List ℤ) (h : HasPairs layer_words ws (count_in ws)) {k : ℕ} (e : k ≡ 2 * count_in ws + 1) where
  rest_count : length (mid_of k (length ws - k) ws) / memory_width ≡ (word_sizes ws h e).total
  rest_count =
      let z = word_sizes ws h e in
      let w : length (drop k ws) ≡ memory_width * z.total = omega (arith, length-drop k ws, z.words) in
      ap (λ (s : List ℤ). length s / memory_width) (mid_tail k ws) ∙ ap (λ (k : ℕ). k / memory_width) w ∙ mul-div_cancel_left z.total (omega arith)

  pub head_long : length (take k ws) ≡ k
  head_long = length-take-le k ws (omega (arith, (word_sizes ws h e).words))

  pub encode_room : (out d : List ℕ) → 4 * length (written_words ws) ≤ length out → length d ≡ length out
      → 4 * (file_width * (length (mid_of k (length ws - k) ws) / memory_width)) ≤ length (mid_of (4 * k) (length d - 4 * k) d)
  encode_room out d room l = omega (arith, rest_count, (word_sizes ws h e).written, room, l, ap length (mid_tail (4 * k) d), length-drop (4 * k) d)

  pub encoded : (out d t : List ℕ) → 4 * length (written_words ws) ≤ length out → d ≡ words_of word_codec (take k ws) ++ drop (4 * length (take k ws)) out
      → t ≡ words_of word_codec (words_of file_codec (layer_of (mid_of k (length ws - k) ws)))
      ++ drop (4 * (file_width * (length (mid_of k (length ws - k) ws) / memory_width))) (mid_of (4 * k) (length d - 4 * k) d)
      → put_mid (4 * k) (length d - 4 * k) d t ≡ words_of word_codec (written_words ws) ++ drop (4 * length (written_words ws)) out
  encoded out d t room p q =
      let z = word_sizes ws h e in
      let c = rest_count in
      let rest = mid_of k (length ws - k) ws in
      let m = 4 * (file_width * (length rest / memory_width)) in
      let head = words_of word_codec (take k ws) in
      let body = words_of word_codec (words_of file_codec (layer_of rest)) in
      let u : 4 * length (take k ws) ≡ 4 * k = omega (arith, head_long) in
      let l : length head ≡ 4 * k = length_words word_codec words_faithful.readable (take k ws) ∙ u in
      let b : rest ≡ body_of ws = mid_tail k ws ∙ ap (λ (j : ℕ). drop j ws) e in
      let a : take k ws ≡ head_of ws = ap (λ (j : ℕ). take j ws) e in
      let is : head ++ body ≡ words_of word_codec (written_words ws)
      = sym (words_append word_codec (take k ws) (words_of file_codec (layer_of rest)))
      ∙ (λ j. words_of word_codec (a j ++ words_of file_codec (layer_of (b j)))) ∙ ap (words_of word_codec) (sym (written_is ws)) in
      let long : 4 * k + m ≡ 4 * length (written_words ws) = omega (arith, z.written, c) in
      put_together (4 * k) m head body out d t l (omega (arith, z.written, room)) (p ∙ ap (λ (i : ℕ). head ++ drop i out) u) q ∙ (λ j. is j ++ drop (long j) out)
