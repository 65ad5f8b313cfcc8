-- A buffer of n words that holds records and is blank past them: read, borrowed from a record on, and taken back.
use mathlib.Core.Path.{◌≡◌, sym, ap, ◌∙◌}
use mathlib.Core.List.{List, [], ◌∷◌, ◌++◌, append_assoc}
use Prim.Native.Nat.{ℕ, ◌+◌, ◌*◌, ◌-◌, ◌≤◌}
use native.Mathlib.Nat as NatL
use native.Mathlib.Omega.{arith}
use lib.ListN.{length, take, drop, replicate, length-append, length-replicate, replicate-append-replicate}
use lib.Seq.{take_at, drop_at, drop-drop}
use borrow.Rule.Slice.PartMut.{put_mid, mid_of}
use Rattle.lists.specs.Lists.{All}
use Rattle.lists.proofs.Parts.{put_mid_lem, put_tail, mid_tail, drop_replicate, take_replicate}
use Rattle.records.specs.Records.{Codec, Readable, records_from, words_of, image, Holds, Blank}
use Rattle.records.proofs.Records.{words_append, words_one, length_words, from_words}

-- ---- blank words
module _ {W : Type 0} (z : W) where
  pub blank_of : (d : List W) (n : ℕ) → d ≡ replicate n z → Blank z d
  blank_of d n e = let l : length d ≡ n = ap length e ∙ length-replicate n z in rw l e

module _ {W A : Type 0} (C : Codec W A) {Good : A → Type 0} (F : Readable C Good) where
  abbrev size : List A → ℕ
  size rs = C.width * length rs

  abbrev blanks : ℕ → List W
  blanks n = replicate n C.blank

  size_append : (a b : List A) → size (a ++ b) ≡ size a + size b
  size_append a b = ap (λ (n : ℕ). C.width * n) (length-append a b) ∙ NatL.mul-add C.width (length a) (length b)

  -- ---- the image
  pub length_image : (n : ℕ) (rs : List A) → size rs ≤ n → length (image C n rs) ≡ n
  length_image n rs h = length-append (words_of C rs) (blanks (n - size rs)) ∙ rw (length_words C F rs, length-replicate (n - size rs) C.blank) (omega arith)

  pub image_none : (n : ℕ) → image C n [] ≡ blanks n
  unfolding words_of
  image_none n = let e : n - C.width * 0 ≡ n = omega (arith, NatL.mul-zero C.width) in ap blanks e

  pub image_take : (n : ℕ) (rs : List A) → take (size rs) (image C n rs) ≡ words_of C rs
  image_take n rs = take_at (words_of C rs) (blanks (n - size rs)) (size rs) (length_words C F rs)

  pub image_drop : (n : ℕ) (rs : List A) → drop (size rs) (image C n rs) ≡ blanks (n - size rs)
  image_drop n rs = drop_at (words_of C rs) (blanks (n - size rs)) (size rs) (length_words C F rs)

  pub image_append : (n : ℕ) (a b : List A) → words_of C a ++ image C (n - size a) b ≡ image C n (a ++ b)
  image_append n a b =
      let e : n - size a - size b ≡ n - size (a ++ b) = omega (arith, size_append a b) in
      rw (words_append C a b, ← e) (sym (append_assoc (words_of C a) (words_of C b) (blanks (n - size a - size b))))

  -- the records are read back, and one stored at the front of blanks is held
  pub image_records : (n : ℕ) (rs : List A) → All Good rs → records_from C (length rs) (image C n rs) 0 ≡ rs
  image_records n rs g = from_words C F rs (blanks (n - size rs)) g

  pub image_one : (r : A) (d : List W) → Blank C.blank d → C.encode r ++ drop C.width d ≡ image C (length d) (r ∷ [])
  image_one r d z =
      let e : drop C.width d ≡ blanks (length d - C.width) = ap (drop C.width) z ∙ drop_replicate C.blank C.width (length d) in
      let f : length d - C.width ≡ length d - size (r ∷ []) = ap (λ (n : ℕ). length d - n) (sym (NatL.mul-one C.width)) in
      rw (e, words_one C r, f)

  -- ---- a buffer d of n words that holds a, borrowed from record k = length a on
  module _ (n k : ℕ) (d : List W) (a : List A) (laid : d ≡ image C n a) (full : k ≡ length a) (room : C.width * k ≤ n) where
    at_end_lem : C.width * k ≡ size a
    at_end_lem = ap (λ (m : ℕ). C.width * m) full

    pub laid_length : length d ≡ n
    laid_length = ap length laid ∙ length_image n a (omega (arith, at_end_lem))

    front : take (C.width * k) d ≡ words_of C a
    front = rw (at_end_lem, laid) (image_take n a)

    rest : drop (C.width * k) d ≡ blanks (n - C.width * k)
    rest = rw (at_end_lem, laid) (image_drop n a)

    -- the whole tail
    pub tail_is : mid_of (C.width * k) (length d - C.width * k) d ≡ blanks (n - C.width * k)
    tail_is = mid_tail (C.width * k) d ∙ rest

    pub tail_length : length (mid_of (C.width * k) (length d - C.width * k) d) ≡ n - C.width * k
    tail_length = ap length tail_is ∙ length-replicate (n - C.width * k) C.blank

    pub tail_blank : Blank C.blank (mid_of (C.width * k) (length d - C.width * k) d)
    tail_blank = blank_of C.blank (mid_of (C.width * k) (length d - C.width * k) d) (n - C.width * k) tail_is

    pub tail_back : (t : List W) (b : List A) → t ≡ image C (n - C.width * k) b → put_mid (C.width * k) (length d - C.width * k) d t ≡ image C n (a ++ b)
    tail_back t b e = put_tail (C.width * k) d t (omega (arith, laid_length)) ∙ rw (front, e, at_end_lem) (image_append n a b)

    -- the part up to word e
    module _ (e : ℕ) (from : C.width * k ≤ e) (upto : e ≤ n) where
      pub mid_is : mid_of (C.width * k) (e - C.width * k) d ≡ blanks (e - C.width * k)
      mid_is = ap (take (e - C.width * k)) rest ∙ take_replicate C.blank (e - C.width * k) (n - C.width * k) (omega arith)

      pub mid_length : length (mid_of (C.width * k) (e - C.width * k) d) ≡ e - C.width * k
      mid_length = ap length mid_is ∙ length-replicate (e - C.width * k) C.blank

      pub mid_blank : Blank C.blank (mid_of (C.width * k) (e - C.width * k) d)
      mid_blank = blank_of C.blank (mid_of (C.width * k) (e - C.width * k) d) (e - C.width * k) mid_is

      past : drop e d ≡ blanks (n - e)
      past =
          let q : C.width * k + (e - C.width * k) ≡ e = omega arith in
          let r : n - C.width * k - (e - C.width * k) ≡ n - e = omega arith in
          (rw q at (sym (drop-drop (e - C.width * k) (C.width * k) d))) ∙ ap (drop (e - C.width * k)) rest ∙ drop_replicate C.blank (e - C.width * k) (n - C.width * k) ∙ ap blanks r

      pub mid_back : (t : List W) (b : List A) → size b ≤ e - C.width * k → t ≡ image C (e - C.width * k) b → put_mid (C.width * k) (e - C.width * k) d t ≡ image C n (a ++ b)
      mid_back t b f g =
          let z : e - C.width * k - size b + (n - e) ≡ n - size a - size b = omega (arith, at_end_lem) in
          let y : image C (e - C.width * k) b ++ blanks (n - e) ≡ image C (n - size a) b
          = append_assoc (words_of C b) (blanks (e - C.width * k - size b)) (blanks (n - e))
          ∙ ap (λ (t : List W). words_of C b ++ t) (replicate-append-replicate (e - C.width * k - size b) (n - e) C.blank ∙ ap blanks z) in
          put_mid_lem (C.width * k) e d t from ∙ rw (front, past, g, append_assoc (words_of C a) (image C (e - C.width * k) b) (blanks (n - e)), y) (image_append n a b)

  -- ---- the same as facts of what a buffer holds
  pub holds_of : (n : ℕ) (d : List W) (rs : List A) → size rs ≤ n → d ≡ image C n rs → Holds C d rs
  holds_of n d rs h e =
      let l : length d ≡ n = ap length e ∙ length_image n rs h in
      record { fit = omega (arith, l); is = rw l e }

  pub holds_none : (d : List W) → Blank C.blank d → Holds C d []
  holds_none d z = record { fit = omega (arith, NatL.mul-zero C.width); is = z ∙ sym (image_none (length d)) }

  pub none_blank : (d : List W) → Holds C d [] → Blank C.blank d
  none_blank d h = h.is ∙ image_none (length d)

  pub holds_one : (r : A) (d : List W) → Blank C.blank d → C.width ≤ length d → Holds C (C.encode r ++ drop C.width d) (r ∷ [])
  holds_one r d z l = holds_of (length d) (C.encode r ++ drop C.width d) (r ∷ []) (omega (arith, NatL.mul-one C.width)) (image_one r d z)

  pub holds_records : (d : List W) (rs : List A) → All Good rs → Holds C d rs → records_from C (length rs) d 0 ≡ rs
  holds_records d rs g h = ap (λ (t : List W). records_from C (length rs) t 0) h.is ∙ image_records (length d) rs g

  -- d holds a, and is borrowed from its first free record on
  module _ (k : ℕ) (d : List W) (a : List A) (h : Holds C d a) (full : k ≡ length a) where
    within : C.width * k ≤ length d
    within = omega (arith, h.fit, ap (λ (m : ℕ). C.width * m) full)

    pub borrowed_length : length (mid_of (C.width * k) (length d - C.width * k) d) ≡ length d - C.width * k
    borrowed_length = tail_length (length d) k d a h.is full within

    pub borrowed_blank : Blank C.blank (mid_of (C.width * k) (length d - C.width * k) d)
    borrowed_blank = tail_blank (length d) k d a h.is full within

    pub borrowed_back : (t : List W) (b : List A) → length t ≡ length d - C.width * k → Holds C t b → Holds C (put_mid (C.width * k) (length d - C.width * k) d t) (a ++ b)
    borrowed_back t b l g =
        holds_of (length d) (put_mid (C.width * k) (length d - C.width * k) d t) (a ++ b)
        (omega (arith, size_append a b, g.fit, l, within, ap (λ (m : ℕ). C.width * m) full))
        (tail_back (length d) k d a h.is full within t b (rw l at g.is))

    -- up to word e alone
    module _ (e : ℕ) (from : C.width * k ≤ e) (upto : e ≤ length d) where
      pub borrowed_mid_length : length (mid_of (C.width * k) (e - C.width * k) d) ≡ e - C.width * k
      borrowed_mid_length = mid_length (length d) k d a h.is full within e from upto

      pub borrowed_mid_blank : Blank C.blank (mid_of (C.width * k) (e - C.width * k) d)
      borrowed_mid_blank = mid_blank (length d) k d a h.is full within e from upto

      pub borrowed_mid_back : (t : List W) (b : List A) → length t ≡ e - C.width * k → Holds C t b → Holds C (put_mid (C.width * k) (e - C.width * k) d t) (a ++ b)
      borrowed_mid_back t b l g =
          let f : size b ≤ e - C.width * k = omega (arith, g.fit, l) in
          holds_of (length d) (put_mid (C.width * k) (e - C.width * k) d t) (a ++ b)
          (omega (arith, size_append a b, f, from, upto, ap (λ (m : ℕ). C.width * m) full))
          (mid_back (length d) k d a h.is full within e from upto t b f (rw l at g.is))
