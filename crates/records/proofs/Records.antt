-- Records of a list of words: read in turn, there and back, and appended.
use mathlib.Core.Path.{◌≡◌, refl, sym, ap, ◌∙◌}
use mathlib.Core.List.{List, [], ◌∷◌, ◌++◌, append_assoc, append-nil}
use Prim.Native.Nat.{ℕ, zero, suc, ◌+◌, ◌*◌, ◌-◌, ◌/◌, ◌<◌, ◌≤◌}
use native.Mathlib.Nat as NatL
use native.Mathlib.Omega.{arith}
use lib.ListN.{length, take, drop, length-append, length-drop}
use lib.Seq.{take_at, drop-append-add, drop-drop, take-add, length-take-le, take_all}
use Rattle.lists.specs.Lists.{All}
use Rattle.lists.proofs.Lists.{all_take, all_drop}
use Rattle.records.specs.Records.{Codec, Readable, Faithful, record_at, records_from, records, words_of}

-- ---- products with a width that is not known
pub times_more : (w i : ℕ) → w * (i + 1) ≡ w * i + w
times_more w i = NatL.mul-add w i 1 ∙ ap (λ (n : ℕ). w * i + n) (NatL.mul-one w)

pub times_suc : (w n : ℕ) → w * suc n ≡ w + w * n
times_suc w n = NatL.mul-suc w n ∙ NatL.add_comm (w * n) w

module _ {W A : Type 0} (C : Codec W A) where
  -- ---- read in turn
  pub from_start : (n : ℕ) (s : List W) → records_from C (n - 0) s 0 ≡ records_from C n s 0
  from_start n s = let e : n - 0 ≡ n = omega arith in ap (λ (k : ℕ). records_from C k s 0) e

  pub from_step : (n : ℕ) (s : List W) (i : ℕ) → i < n → records_from C (n - i) s i ≡ record_at C s i ∷ records_from C (n - (i + 1)) s (i + 1)
  unfolding records_from
  from_step n s i h = let e : n - i ≡ suc (n - (i + 1)) = omega arith in ap (λ (k : ℕ). records_from C k s i) e

  pub from_none : (n : ℕ) (s : List W) (i : ℕ) → n ≤ i → records_from C (n - i) s i ≡ []
  unfolding records_from
  from_none n s i h = let e : n - i ≡ 0 = omega arith in ap (λ (k : ℕ). records_from C k s i) e

  pub length_from : (n : ℕ) (s : List W) (i : ℕ) → length (records_from C n s i) ≡ n
  unfolding records_from
  length_from zero s i = refl
  length_from (suc n) s i = ap suc (length_from n s (i + 1))

  pub from_append : (n m : ℕ) (s : List W) (i : ℕ) → records_from C (n + m) s i ≡ records_from C n s i ++ records_from C m s (i + n)
  unfolding records_from
  from_append zero m s i = let e : zero + m ≡ m = omega arith in let f : i + zero ≡ i = omega arith in rw (e, f)
  from_append (suc n) m s i =
      let e : suc n + m ≡ suc (n + m) = omega arith in
      let f : i + 1 + n ≡ i + suc n = omega arith in
      rw (e, ← f) (ap (λ (rs : List A). record_at C s i ∷ rs) (from_append n m s (i + 1)))

  -- ---- the words of records
  pub words_append : (a b : List A) → words_of C (a ++ b) ≡ words_of C a ++ words_of C b
  unfolding words_of
  words_append [] b = refl
  words_append (r ∷ a) b = ap (λ (t : List W). C.encode r ++ t) (words_append a b) ∙ sym (append_assoc (C.encode r) (words_of C a) (words_of C b))

  pub words_one : (r : A) → words_of C (r ∷ []) ≡ C.encode r
  unfolding words_of
  words_one r = append-nil (C.encode r)

  module _ {Good : A → Type 0} (F : Readable C Good) where
    pub length_words : (rs : List A) → length (words_of C rs) ≡ C.width * length rs
    unfolding words_of
    length_words [] = sym (NatL.mul-zero C.width)
    length_words (r ∷ rs) = length-append (C.encode r) (words_of C rs) ∙ rw (F.encode_length, length_words rs, ← times_suc C.width (length rs))

    -- ---- there and back: what was written is read
    at_past : (r : A) (s : List W) (i : ℕ) → record_at C (C.encode r ++ s) (i + 1) ≡ record_at C s i
    unfolding record_at
    at_past r s i =
        let e : C.width * (i + 1) ≡ length (C.encode r) + C.width * i = rw (F.encode_length r, times_more C.width i) (NatL.add_comm (C.width * i) C.width) in
        ap (λ (n : ℕ). C.decode (take C.width (drop n (C.encode r ++ s)))) e ∙ ap (λ (t : List W). C.decode (take C.width t)) (drop-append-add (C.encode r) s (C.width * i))

    at_front : (r : A) (s : List W) → Good r → record_at C (C.encode r ++ s) 0 ≡ r
    unfolding record_at
    at_front r s g =
        ap (λ (n : ℕ). C.decode (take C.width (drop n (C.encode r ++ s)))) (NatL.mul-zero C.width) ∙ ap C.decode (take_at (C.encode r) s C.width (F.encode_length r)) ∙ F.decode_encode r g

    from_past : (n : ℕ) (r : A) (s : List W) (i : ℕ) → records_from C n (C.encode r ++ s) (i + 1) ≡ records_from C n s i
    unfolding records_from
    from_past zero r s i = refl
    from_past (suc n) r s i = rw (at_past r s i, from_past n r s (i + 1))

    pub from_words : (rs : List A) (t : List W) → All Good rs → records_from C (length rs) (words_of C rs ++ t) 0 ≡ rs
    unfolding records_from words_of
    from_words [] t g = refl
    from_words (r ∷ rs) t g =
        rw (append_assoc (C.encode r) (words_of C rs) t, at_front r (words_of C rs ++ t) g.0) (ap (λ (l : List A). r ∷ l) (from_past (length rs) r (words_of C rs ++ t) 0 ∙ from_words rs t g.1))

    count_words : (rs : List A) → length (words_of C rs) / C.width ≡ length rs
    count_words rs = rw (length_words rs) (NatL.mul-div_cancel_left (length rs) F.some)

    pub records_words : (rs : List A) → All Good rs → records C (words_of C rs) ≡ rs
    records_words rs g = rw (count_words rs, ← append-nil (words_of C rs)) (from_words rs [] g)

  -- ---- and back: what was read is written
  module _ {Good : A → Type 0} {Legal : W → Type 0} (F : Faithful C Good Legal) where
    words_at : (s : List W) (i : ℕ) → C.width * i + C.width ≤ length s → All Legal s → C.encode (record_at C s i) ≡ take C.width (drop (C.width * i) s)
    unfolding record_at
    words_at s i h g =
        F.encode_decode (take C.width (drop (C.width * i) s)) (length-take-le C.width (drop (C.width * i) s) (simp length-drop (omega arith))) (all_take Legal C.width (drop (C.width * i) s) (all_drop Legal (C.width * i) s g))

    pub words_from : (n : ℕ) (s : List W) (i : ℕ) → C.width * (i + n) ≤ length s → All Legal s → words_of C (records_from C n s i) ≡ take (C.width * n) (drop (C.width * i) s)
    unfolding records_from words_of
    words_from zero s i h g = rw (NatL.mul-zero C.width)
    words_from (suc n) s i h g =
        let w = C.width in
        let e : w * (i + suc n) ≡ w * (i + 1 + n) = (let f : i + suc n ≡ i + 1 + n = omega arith in ap (λ (k : ℕ). w * k) f) in
        let k : w * (i + 1 + n) ≤ length s = omega arith in
        let l : w * (i + 1) ≤ w * (i + 1 + n) = NatL.mul-le-mul_left w (NatL.le-add_right (i + 1) n) in
        rw (words_at s i (omega (arith, times_more w i)) g, words_from n s (i + 1) k g, times_more w i, ← drop-drop w (w * i) s, times_suc w n) (sym (take-add w (w * n) (drop (w * i) s)))

    pub words_records : (s : List W) (n : ℕ) → length s ≡ C.width * n → All Legal s → words_of C (records C s) ≡ s
    words_records s n h g =
        let w = C.width in
        let e : length s / w ≡ n = rw h (NatL.mul-div_cancel_left n F.readable.some) in
        let z : w * (0 + n) ≤ length s = rw (h, NatL.zero-add n) (NatL.le_refl (w * n)) in
        ap (λ (k : ℕ). words_of C (records_from C k s 0)) e ∙ words_from n s 0 z g ∙ rw (NatL.mul-zero w) (take_all (w * n) s (omega (arith, h)))
