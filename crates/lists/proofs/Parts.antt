-- Parts of a list: its first n elements, those past them, and a part put back.
use mathlib.Core.Path.{◌≡◌, refl, sym, ap, ◌∙◌}
use mathlib.Core.List.{List, [], ◌∷◌, ◌++◌, map, append_assoc, append-nil}
use Prim.Native.Nat.{ℕ, zero, suc, ◌+◌, ◌-◌, ◌<◌, ◌≤◌}
use native.Mathlib.Nat.{not-suc-le-zero}
use native.Mathlib.Numerals.{add-one}
use native.Mathlib.Omega.{arith}
use lib.ListN.{length, get_or, take, drop, replicate, length-drop, drop_of_length-le}
use lib.Seq.{slice, take-add, take_all, drop_at, length-take-le, drop-cons, get_or-take, take-append_seam, drop-append_seam}
use borrow.Rule.Slice.PartMut.{put_mid, mid_of, Post-is}
use Rattle.lists.specs.Lists.{All, cut, joined}
use Rattle.lists.proofs.Lists.{all_at}

-- ---- a part of a slice, borrowed as `&mut d[a..e]` or `&mut d[a..]`, and the slice when it comes back
module _ {A : Type 0} where
  pub put_mid_lem : (a e : ℕ) (d ys : List A) → a ≤ e → put_mid a (e - a) d ys ≡ (take a d ++ ys) ++ drop e d
  put_mid_lem a e d ys h = ap (λ (t : List A). take a d ++ (ys ++ t)) (Post-is a e d h) ∙ sym (append_assoc (take a d) ys (drop e d))

  pub put_tail : (a : ℕ) (d ys : List A) → a ≤ length d → put_mid a (length d - a) d ys ≡ take a d ++ ys
  put_tail a d ys h = put_mid_lem a (length d) d ys h ∙ rw (drop_of_length-le d {i = length d} (omega arith), append-nil)

  pub mid_tail : (a : ℕ) (d : List A) → mid_of a (length d - a) d ≡ drop a d
  mid_tail a d = take_all (length d - a) (drop a d) (simp length-drop (omega arith))

  -- w elements from number f on
  pub slice_take : (s : List A) (f w : ℕ) → f ≤ length s → slice f (f + w) s ≡ take w (drop f s)
  slice_take s f w l = ap (drop f) (take-add f w s) ∙ drop_at (take f s) (take w (drop f s)) f (length-take-le f s l)

-- ---- equal elements
module _ {A : Type 0} (z : A) where
  pub drop_replicate : (k m : ℕ) → drop k (replicate m z) ≡ replicate (m - k) z
  drop_replicate zero m = let e : m ≡ m - 0 = omega arith in ap (λ (k : ℕ). replicate k z) e
  drop_replicate (suc k) zero = let e : 0 ≡ 0 - suc k = omega arith in ap (λ (k : ℕ). replicate k z) e
  drop_replicate (suc k) (suc m) = let e : m - k ≡ suc m - suc k = omega arith in drop_replicate k m ∙ ap (λ (k : ℕ). replicate k z) e

  pub take_replicate : (k m : ℕ) → k ≤ m → take k (replicate m z) ≡ replicate k z
  take_replicate zero m h = refl
  take_replicate (suc k) zero h = absurd (not-suc-le-zero h)
  take_replicate (suc k) (suc m) h = ap (λ (t : List A). z ∷ t) (take_replicate k m (omega arith))

-- ---- the first n of a list, one by one
module _ {A : Type 0} (n : ℕ) (list : List A) (h : n ≤ length list) where
  long : length (take n list) ≡ n
  long = length-take-le n list h

  pub first_next : (i : ℕ) (d : A) → i < n → drop i (take n list) ≡ get_or list i d ∷ drop (i + 1) (take n list)
  first_next i d l = rw add-one (drop-cons (take n list) i d (omega (arith, long)) ∙ rw (get_or-take n list i d l))

  pub first_at : (P : A → Type 0) (i : ℕ) (d : A) → i < n → All P (take n list) → P (get_or list i d)
  first_at P i d l a = rw (sym (get_or-take n list i d l)) (all_at P (take n list) i d a (omega (arith, long)))

  pub first_end : (i : ℕ) → n ≤ i → drop i (take n list) ≡ []
  first_end i l = drop_of_length-le (take n list) {i = i} (omega (arith, long))

-- ---- a list cut, and joined again
module _ {A : Type 0} where
  pub cut_length : (ns : List ℕ) (xs : List A) → length (cut ns xs) ≡ length ns
  unfolding cut
  cut_length [] xs = refl
  cut_length (n ∷ ns) xs = ap suc (cut_length ns (drop n xs))

  pub cut_joined : (xss : List (List A)) → cut (map length xss) (joined xss) ≡ xss
  unfolding cut
  cut_joined [] = refl
  cut_joined (xs ∷ xss) = rw (take-append_seam xs (joined xss), drop-append_seam xs (joined xss), cut_joined xss)
