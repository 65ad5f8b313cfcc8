-- A tail filled part by part: what holds between two parts, that a part keeps it, and what it says at each way out.
use Rattle.std.specs.Prelude.{Option, Some, None}
use mathlib.Core.Path.{◌≡◌, refl, sym, ◌∙◌, ap, subst}
use mathlib.Core.List.{List, [], ◌∷◌, ◌++◌, append_assoc, append-nil}
use Prim.Native.Nat.{ℕ, ◌+◌, ◌*◌, ◌-◌, ◌<◌, ◌≤◌}
use native.Mathlib.Omega.{arith}
use lib.ListN.{length, drop, length-append}
use lib.IntN.{ℤ, pos}
use borrow.Rule.Slice.PartMut.{put_mid, mid_of}
use Rattle.records.specs.Limits.{memory_width}
use Rattle.records.specs.Records.{Codec, Readable, image}
use Rattle.records.proofs.Buffer.{length_image, image_none, image_one, tail_length, tail_blank, tail_back}
use Rattle.geometry.specs.declared.Trapezoid.{Trapezoid}
use Rattle.geometry.specs.Trapezoids.{trapezoid_of, trapezoid_words}
use Rattle.geometry.proofs.Trapezoids.{trapezoid_readable}
use Rattle.trapezoids_code.specs.Tails.{Borrowed, FilledBy, FilledAs}

abbrev pub tail : List ℤ → ℕ → List ℤ
tail out n = mid_of (memory_width * n) (length out - memory_width * n) out

-- ---- values kept in records of memory
abbrev pub memory_codec : {R : Type 0} → (R → List ℤ) → (List ℤ → R) → Codec ℤ R
memory_codec encode decode = record { width = memory_width; blank = pos 0; encode = encode; decode = decode }

pub record Kind (R : Type 0) : Type 0 where
  pub encode : R → List ℤ
  pub decode : List ℤ → R
  pub readable : Readable (memory_codec encode decode) (λ (r : R). Unit {0})

abbrev pub codec_of : {R : Type 0} → Kind R → Codec ℤ R
codec_of K = memory_codec K.encode K.decode

-- trapezoids, with empty sets
abbrev pub plain : Kind Trapezoid
plain = record { encode = λ t. trapezoid_words t ++ (pos 0 ∷ []); decode = trapezoid_of; readable = trapezoid_readable }

-- ---- one part
module _ {R : Type 0} (K : Kind R) (d : List ℤ) (room : ℕ) (h : Borrowed d room) where
  blank_image : d ≡ image (codec_of K) (length d) []
  blank_image = h.blank ∙ sym (image_none (codec_of K) K.readable (length d))

  pub fill_none : FilledBy (codec_of K) (length d) room [] (Some 0) d
  fill_none = (refl, omega arith, blank_image)

module _ (d : List ℤ) (room : ℕ) (h : Borrowed d room) where
  pub fill_nothing : FilledAs (length d) room [] (Some 0) d
  fill_nothing = fill_none plain d room h

  pub fill_one : (t : Trapezoid) → 1 ≤ room → FilledAs (length d) room (t ∷ []) (Some 1) ((trapezoid_words t ++ (pos 0 ∷ [])) ++ drop memory_width d)
  fill_one t l = (refl, l, image_one (codec_of plain) plain.readable t d h.blank)

-- ---- parts
-- of the values `goal` all but `rest` stand in out, which has W words and takes `room` records
pub record WritingBy {R : Type 0} (K : Kind R) (W room : ℕ) (goal rest : List R) (out : List ℤ) (n : ℕ) : Type 0 where
  pub done : List R
  pub all : goal ≡ done ++ rest
  pub laid : out ≡ image (codec_of K) W done
  pub size : n ≡ length done
  pub upto : n ≤ room
  pub wide : memory_width * room ≤ W
  pub long : length out ≡ W

-- of trapezoids
abbrev pub Writing : ℕ → ℕ → List Trapezoid → List Trapezoid → List ℤ → ℕ → Type 0
Writing W room goal rest out n = WritingBy plain W room goal rest out n

pub write_start : (goal : List Trapezoid) (d : List ℤ) (room : ℕ) → Borrowed d room → Writing (length d) room goal goal d 0
write_start goal d room h = record { done = []; all = refl; laid = blank_image plain d room h; size = refl; upto = omega arith; wide = h.wide; long = refl }

module _ {R : Type 0} {K : Kind R} {W room : ℕ} {goal rest : List R} {out : List ℤ} {n : ℕ} (h : WritingBy K W room goal rest out n) where
  in_words : memory_width * n ≤ W
  in_words = omega (arith, h.upto, h.wide)

  borrowed_length : length (tail out n) ≡ W - memory_width * n
  borrowed_length = tail_length (codec_of K) K.readable W n out h.done h.laid h.size in_words

  pub write_fits : memory_width * n ≤ length out
  write_fits = omega (arith, in_words, h.long)

  pub write_borrowed : Borrowed (tail out n) (room - n)
  write_borrowed =
      record {
        blank = tail_blank (codec_of K) K.readable W n out h.done h.laid h.size in_words;
        wide = omega (arith, borrowed_length, h.upto, h.wide);
      }

  pub write_stop : rest ≡ [] → FilledBy (codec_of K) W room goal (Some n) out
  write_stop e =
      let d : goal ≡ h.done = h.all ∙ rw e (append-nil h.done) in
      rw d (h.size, omega (arith, h.size, h.upto), h.laid)

  -- what is left begins with `more`
  module _ (more later : List R) (turn : rest ≡ more ++ later) (f : Option ℕ) (t : List ℤ) (g : FilledBy (codec_of K) (length (tail out n)) (room - n) more f t) where
    all_next : goal ≡ (h.done ++ more) ++ later
    all_next = h.all ∙ ap (λ (ts : List R). h.done ++ ts) turn ∙ sym (append_assoc h.done more later)

    pub write_full : f ≡ None → room < length goal
    write_full e =
        let k = subst (λ (f : Option ℕ). FilledBy (codec_of K) (length (tail out n)) (room - n) more f t) e g in
        let l = ap length all_next in
        let i = length-append (h.done ++ more) later in
        let j = length-append h.done more in
        omega (arith, k.0, l, i, j, h.size, h.upto)

    pub write_upto : (m : ℕ) → f ≡ Some m → n + m ≤ room
    write_upto m e =
        let k = subst (λ (f : Option ℕ). FilledBy (codec_of K) (length (tail out n)) (room - n) more f t) e g in
        omega (arith, k.0, k.1, h.upto)

    pub write_turn : (m : ℕ) → f ≡ Some m → WritingBy K W room goal later (put_mid (memory_width * n) (length out - memory_width * n) out t) (n + m)
    write_turn m e =
        let k = subst (λ (f : Option ℕ). FilledBy (codec_of K) (length (tail out n)) (room - n) more f t) e g in
        let u : t ≡ image (codec_of K) (W - memory_width * n) more = rw borrowed_length at k.2 in
        let back = tail_back (codec_of K) K.readable W n out h.done h.laid h.size in_words t more u in
        let j = length-append h.done more in
        let s : n + m ≡ length (h.done ++ more) = omega (arith, j, k.0, h.size) in
        let r = write_upto m e in
        record {
          done = h.done ++ more;
          all = all_next;
          laid = back;
          size = s;
          upto = r;
          wide = h.wide;
          long = ap length back ∙ length_image (codec_of K) K.readable W (h.done ++ more) (omega (arith, s, r, h.wide));
        }
