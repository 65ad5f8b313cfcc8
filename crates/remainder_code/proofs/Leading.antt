-- A buffer's first k records, and what is past them.
use mathlib.Core.Path.{◌≡◌, sym, ◌∙◌, ap, subst}
use mathlib.Core.List.{List, ◌++◌}
use Prim.Native.Nat.{ℕ, ◌+◌, ◌*◌, ◌-◌, ◌<◌, ◌≤◌}
use native.Mathlib.Omega.{arith}
use lib.ListN.{length, get_or, take, drop, replicate, length-drop, take-append-drop, replicate-append-replicate}
use lib.Seq.{length-take-le, drop_at}
use lib.IntN.{ℤ, pos}
use borrow.Rule.Slice.PartMut.{put_mid, take_put, same_len_mid}
use Rattle.lists.specs.Lists.{All}
use Rattle.lists.proofs.Lists.{all_of}
use Rattle.lists.proofs.Parts.{put_tail, mid_tail, drop_replicate, take_replicate}
use Rattle.records.specs.Limits.{memory_width}
use Rattle.records.specs.Records.{words_of, record_at, count, Blank}
use Rattle.records.proofs.Records.{from_start, from_step, length_from, records_words}
use Rattle.records.proofs.Buffer.{blank_of, image_take, image_drop}
use Rattle.geometry.specs.declared.Trapezoid.{Trapezoid}
use Rattle.geometry.specs.Limit.{coordinate_limit}
use Rattle.geometry.specs.Fitness.{FitFor}
use Rattle.geometry.specs.Trapezoids.{trapezoid_codec, layer_of}
use Rattle.geometry.proofs.Trapezoids.{trapezoid_readable}
use Rattle.trapezoids_code.proofs.Writing.{tail}
use Rattle.remainder_code.specs.Code.{front, rest, leading, Remaining, ScratchFor}

-- ---- the two parts
module _ (d : List ℤ) (k : ℕ) where
  pub rest_is : tail d k ≡ rest d k
  rest_is = mid_tail (memory_width * k) d

  pub rest_length : length (rest d k) ≡ length d - memory_width * k
  rest_length = length-drop (memory_width * k) d

  pub rest_blank : Blank (pos 0) d → Blank (pos 0) (rest d k)
  rest_blank z = blank_of (pos 0) (rest d k) (length d - memory_width * k) (ap (drop (memory_width * k)) z ∙ drop_replicate (pos 0) (memory_width * k) (length d))

  module _ (fits : memory_width * k ≤ length d) where
    pub front_length : length (front d k) ≡ memory_width * k
    front_length = length-take-le (memory_width * k) d fits

    pub front_count : count trapezoid_codec (front d k) ≡ k
    front_count = omega (arith, front_length)

    -- t comes back as the rest
    module _ (t : List ℤ) where
      pub back_front : front (put_mid (memory_width * k) (length d - memory_width * k) d t) k ≡ front d k
      back_front = take_put (memory_width * k) (length d - memory_width * k) d t fits

      pub back_rest : rest (put_mid (memory_width * k) (length d - memory_width * k) d t) k ≡ t
      back_rest = ap (drop (memory_width * k)) (put_tail (memory_width * k) d t fits) ∙ drop_at (front d k) t (memory_width * k) front_length

      pub back_whole : front t k ≡ front d k → put_mid (memory_width * k) (length d - memory_width * k) d (rest t k) ≡ t
      back_whole e = put_tail (memory_width * k) d (rest t k) fits ∙ ap (λ (u : List ℤ). u ++ rest t k) (sym e) ∙ take-append-drop (memory_width * k) t

      pub back_blank : Blank (pos 0) d → Blank (pos 0) t → Blank (pos 0) (put_mid (memory_width * k) (length d - memory_width * k) d t)
      back_blank z y =
          let e : front d k ≡ replicate (memory_width * k) (pos 0) = ap (take (memory_width * k)) z ∙ take_replicate (pos 0) (memory_width * k) (length d) fits in
          let p = put_mid (memory_width * k) (length d - memory_width * k) d t in
          blank_of (pos 0) p (memory_width * k + length t)
          (put_tail (memory_width * k) d t fits ∙ (λ j. e j ++ y j) ∙ replicate-append-replicate (memory_width * k) (length t) (pos 0))

-- the first record
pub first_record : (d : List ℤ) (n : ℕ) (z : Trapezoid) → 0 < n → get_or (leading d n) 0 z ≡ record_at trapezoid_codec d 0
first_record d n z l = ap (λ (ts : List Trapezoid). get_or ts 0 z) (sym (from_start trapezoid_codec n d) ∙ from_step trapezoid_codec n d 0 l)

-- ---- a scratch area, past k records
module _ (out scratch : List ℤ) (k : ℕ) (h : ScratchFor out scratch) where
  pub scratch_rest : ScratchFor (rest out k) (rest scratch k)
  scratch_rest = (rest_blank scratch k h.0, rest_length scratch k ∙ ap (λ (n : ℕ). n - memory_width * k) h.1 ∙ sym (rest_length out k))

  pub scratch_tail : ScratchFor (tail out k) (tail scratch k)
  scratch_tail = rw (rest_is out k, rest_is scratch k) scratch_rest

  -- the tails come back as t and w
  pub scratch_back : memory_width * k ≤ length out → (t w : List ℤ) → length t ≡ length (tail out k) → length w ≡ length (tail scratch k) → Blank (pos 0) w
      → ScratchFor (put_mid (memory_width * k) (length out - memory_width * k) out t) (put_mid (memory_width * k) (length scratch - memory_width * k) scratch w)
  scratch_back l t w m n z = (
    back_blank scratch k (omega (arith, l, h.1)) w h.0 z,
    same_len_mid (memory_width * k) (length scratch - memory_width * k) scratch w n ∙ h.1 ∙ sym (same_len_mid (memory_width * k) (length out - memory_width * k) out t m),
  )

-- ---- what the buffer holds
module _ (d : List ℤ) (k room : ℕ) (h : Remaining d k room) where
  pub leading_fits : memory_width * k ≤ length d
  leading_fits = omega (arith, h.within, h.wide)

  size : memory_width * length (leading d k) ≡ memory_width * k
  size = ap (λ (m : ℕ). memory_width * m) (length_from trapezoid_codec k d 0)

  pub front_words : front d k ≡ words_of trapezoid_codec (leading d k)
  front_words = ap (λ (m : ℕ). take m d) (sym size) ∙ ap (take (memory_width * length (leading d k))) h.is ∙ image_take trapezoid_codec trapezoid_readable (length d) (leading d k)

  pub rest_blanks : rest d k ≡ replicate (length d - memory_width * k) (pos 0)
  rest_blanks =
      ap (λ (m : ℕ). drop m d) (sym size) ∙ ap (drop (memory_width * length (leading d k))) h.is ∙ image_drop trapezoid_codec trapezoid_readable (length d) (leading d k)
      ∙ ap (λ (m : ℕ). replicate (length d - m) (pos 0)) size

  pub front_leading : layer_of (front d k) ≡ leading d k
  front_leading = ap layer_of front_words ∙ records_words trapezoid_codec trapezoid_readable (leading d k) (all_of (λ (t : Trapezoid). Unit {0}) (λ t. tt) (leading d k))

  pub leading_fit : All (FitFor coordinate_limit) (layer_of (front d k))
  leading_fit = subst (All (FitFor coordinate_limit)) (sym front_leading) h.fit
