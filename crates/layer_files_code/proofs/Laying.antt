-- Records laid into an output from the front on, one a turn, and the parts of a layer file put together.
use mathlib.Core.Path.{◌≡◌, refl, sym, ap, ◌∙◌}
use mathlib.Core.List.{List, [], ◌∷◌, ◌++◌, append_assoc}
use Prim.Native.Nat.{ℕ, zero, suc, ◌+◌, ◌*◌, ◌-◌, ◌<◌, ◌≤◌}
use native.Mathlib.Numerals.{add-one}
use native.Mathlib.Nat.{mul-zero, mul-le-mul_left}
use native.Mathlib.Omega.{arith}
use lib.ListN.{length, get_or, take, drop, length-drop, length-append}
use lib.Seq.{take_at, drop_at, drop-drop, take-suc, take-length, length-take-le, get_or-take}
use lib.IntN.{ℤ, pos}
use borrow.Rule.Slice.PartMut.{put_mid, mid_of}
use Rattle.lists.specs.Lists.{All}
use Rattle.lists.proofs.Parts.{put_tail, mid_tail}
use Rattle.records.specs.Limits.{file_width, memory_width}
use Rattle.records.specs.Records.{Codec, Readable, record_at, words_of, put_record}
use Rattle.records.specs.Words.{Word, word_codec}
use Rattle.records.proofs.Records.{words_append, words_one, length_words, records_words, times_suc}
use Rattle.records.proofs.Words.{words_faithful}
use Rattle.geometry.specs.declared.Trapezoid.{Trapezoid}
use Rattle.geometry.specs.Trapezoids.{trapezoid_of, trapezoid_words, trapezoid_codec}
use Rattle.geometry.proofs.Trapezoids.{spelled, words_back}
use Rattle.files.specs.Formats.{file_words}
use Rattle.files.specs.Contents.{file_codec}
use Rattle.files.proofs.Widths.{file_faithful}

-- ---- d was d₀, and its first i records are the first i of rs
pub record Stored {W A : Type 0} (C : Codec W A) (rs : List A) (d₀ d : List W) (i : ℕ) : Type 0 where
  pub room : C.width * length rs ≤ length d₀
  pub upto : i ≤ length rs
  pub is : d ≡ words_of C (take i rs) ++ drop (C.width * i) d₀
  pub long : length d ≡ length d₀

module _ {W A : Type 0} (C : Codec W A) {Good : A → Type 0} (F : Readable C Good) where
  pub store_start : (rs : List A) (d₀ : List W) → C.width * length rs ≤ length d₀ → Stored C rs d₀ d₀ 0
  unfolding words_of
  store_start rs d₀ h = record { room = h; upto = omega arith; is = ap (λ (n : ℕ). drop n d₀) (sym (mul-zero C.width)); long = refl }

  front : (rs : List A) (i : ℕ) → i ≤ length rs → length (words_of C (take i rs)) ≡ C.width * i
  front rs i h = length_words C F (take i rs) ∙ ap (λ (n : ℕ). C.width * n) (length-take-le i rs h)

  pub store_turn : {rs : List A} {d₀ d : List W} {i : ℕ} → Stored C rs d₀ d i → i < length rs → {x : A} (z : A) → x ≡ get_or rs i z → {e : List W} → e ≡ put_record C d i x → Stored C rs d₀ e (i + 1)
  store_turn {rs} {d₀} {d} {i} h l {x} z p {e} q =
      let w = C.width in
      let k = front rs i h.upto in
      let t : take (w * i) d ≡ words_of C (take i rs) = ap (take (w * i)) h.is ∙ take_at (words_of C (take i rs)) (drop (w * i) d₀) (w * i) k in
      let u : drop (w * i) d ≡ drop (w * i) d₀ = ap (drop (w * i)) h.is ∙ drop_at (words_of C (take i rs)) (drop (w * i) d₀) (w * i) k in
      let v : drop (w * i + w) d ≡ drop (w * i + w) d₀ = sym (drop-drop w (w * i) d) ∙ ap (drop w) u ∙ drop-drop w (w * i) d₀ in
      let y : words_of C (take (suc i) rs) ≡ words_of C (take i rs) ++ C.encode x
      = ap (words_of C) (take-suc rs i z l ∙ ap (λ (y : A). take i rs ++ (y ∷ [])) (sym p)) ∙ words_append C (take i rs) (x ∷ []) ∙ ap (λ (b : List W). words_of C (take i rs) ++ b) (words_one C x) in
      let m : w * suc i ≡ w * i + w = omega (arith, times_suc w i) in
      let is : e ≡ words_of C (take (i + 1) rs) ++ drop (w * (i + 1)) d₀ = q ∙ rw (t, v, add-one, y, m) (sym (append_assoc (words_of C (take i rs)) (C.encode x) (drop (w * i + w) d₀))) in
      let more : i + 1 ≤ length rs = omega arith in
      let long : length e ≡ length d₀ = omega (
        arith,
        ap length is,
        length-append (words_of C (take (i + 1) rs)) (drop (w * (i + 1)) d₀),
        front rs (i + 1) (omega arith),
        length-drop (w * (i + 1)) d₀,
        mul-le-mul_left w more,
        h.room,
      ) in
      record { room = h.room; upto = omega arith; is = is; long = long }

  pub store_stop : {rs : List A} {d₀ d : List W} {i : ℕ} → Stored C rs d₀ d i → length rs ≤ i → d ≡ words_of C rs ++ drop (C.width * length rs) d₀
  store_stop {rs} {d₀} {d} {i} h l = let e : i ≡ length rs = omega (arith, h.upto) in h.is ∙ rw (e, take-length)

-- a record laid into the part of d that starts with it
pub part_record : {W A : Type 0} (C : Codec W A) (d : List W) (i : ℕ) (x : A) (t : List W) → C.width * i ≤ length d
    → t ≡ C.encode x ++ drop C.width (mid_of (C.width * i) (length d - C.width * i) d) → put_mid (C.width * i) (length d - C.width * i) d t ≡ put_record C d i x
part_record {W} C d i x t h p =
    let w = C.width in
    put_tail (w * i) d t h
    ∙ ap (λ (s : List W). take (w * i) d ++ s) (p ∙ ap (λ (s : List W). C.encode x ++ drop w s) (mid_tail (w * i) d) ∙ ap (λ (s : List W). C.encode x ++ s) (drop-drop w (w * i) d))

-- ---- trapezoids in bytes
abbrev pub bytes_codec : Codec ℕ Trapezoid
bytes_codec = record { width = 4 * file_width; blank = 0; encode = λ t. words_of word_codec (trapezoid_words t); decode = λ bs. trapezoid_of (file_words bs) }

pub bytes_readable : Readable bytes_codec (λ (t : Trapezoid). All Word (trapezoid_words t))
bytes_readable =
    record {
      some = omega arith;
      encode_length = λ t. length_words word_codec words_faithful.readable (trapezoid_words t) ∙ ap (λ (n : ℕ). 4 * n) (file_faithful.readable.encode_length t);
      decode_encode = λ t g. ap trapezoid_of (records_words word_codec words_faithful.readable (trapezoid_words t) g) ∙ file_faithful.readable.decode_encode t tt;
    }

pub bytes_words : (ts : List Trapezoid) → words_of bytes_codec ts ≡ words_of word_codec (words_of file_codec ts)
unfolding words_of
bytes_words [] = refl
bytes_words (t ∷ ts) = ap (λ (b : List ℕ). words_of word_codec (trapezoid_words t) ++ b) (bytes_words ts) ∙ sym (words_append word_codec (trapezoid_words t) (words_of file_codec ts))

-- ---- the 24 words of a trapezoid in memory
spelled_take : (n k m : ℕ) (r : List ℤ) → k + n ≤ m → spelled n k (take m r) ≡ spelled n k r
spelled_take zero k m r h = refl
spelled_take (suc n) k m r h =
    let p = get_or-take m r k (pos 0) (omega arith) in
    let q = spelled_take n (suc k) m r (omega arith) in
    λ j. p j ∷ q j

pub file_words-at : (s : List ℤ) (i : ℕ) → memory_width * i + memory_width ≤ length s → take file_width (drop (memory_width * i) s) ≡ trapezoid_words (record_at trapezoid_codec s i)
unfolding trapezoid_words trapezoid_of record_at
file_words-at s i h =
    let r = drop (memory_width * i) s in
    let l = length-drop (memory_width * i) s in
    sym (words_back (take file_width r) (length-take-le file_width r (omega (arith, l)))) ∙ spelled_take file_width 0 file_width r (omega arith) ∙ sym (spelled_take file_width 0 memory_width r (omega arith))

-- the bytes of its words laid into the part of d for them
pub bytes_part : (ws : List ℤ) (d : List ℕ) (i : ℕ) (t : List ℕ) → memory_width * i + memory_width ≤ length ws → 4 * file_width * i ≤ length d
    → t ≡ words_of word_codec (mid_of (memory_width * i) (memory_width * i + file_width - memory_width * i) ws) ++ drop (4 * length (mid_of (memory_width * i) (memory_width * i + file_width - memory_width * i) ws)) (mid_of (4 * file_width * i) (length d - 4 * file_width * i) d)
    → put_mid (4 * file_width * i) (length d - 4 * file_width * i) d t ≡ put_record bytes_codec d i (record_at trapezoid_codec ws i)
bytes_part ws d i t h k p =
    let rest = mid_of (4 * file_width * i) (length d - 4 * file_width * i) d in
    let n : memory_width * i + file_width - memory_width * i ≡ file_width = omega arith in
    let e = ap (λ (k : ℕ). take k (drop (memory_width * i) ws)) n ∙ file_words-at ws i h in
    let l : 4 * length (mid_of (memory_width * i) (memory_width * i + file_width - memory_width * i) ws) ≡ 4 * file_width = omega (arith, ap length e, file_faithful.readable.encode_length (record_at trapezoid_codec ws i)) in
    part_record bytes_codec d i (record_at trapezoid_codec ws i) t k (p ∙ (λ j. words_of word_codec (e j) ++ drop (l j) rest))
