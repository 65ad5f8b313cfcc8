-- Loops that fill a list from the front, one store a turn: with one value, or with another list's elements.
use mathlib.Core.Path.{◌≡◌, refl, ap, ◌∙◌}
use mathlib.Core.List.{List, [], ◌∷◌, ◌++◌, append-nil}
use Prim.Native.Nat.{ℕ, zero, suc, ◌+◌, ◌<◌, ◌≤◌}
use native.Mathlib.Nat.{not-suc-le-zero, le_of_suc-le-suc}
use native.Mathlib.Numerals.{add-one}
use native.Mathlib.Omega.{arith}
use lib.ListN.{length, get_or, set, take, drop, replicate, length-set}
use lib.Seq.{drop-length, take-length}

module _ {A : Type 0} where
  fill_suc : (n : ℕ) (v : A) (d : List A) → n < length d → set (replicate n v ++ drop n d) n v ≡ replicate (suc n) v ++ drop (suc n) d
  fill_suc n v [] l = absurd (not-suc-le-zero l)
  fill_suc zero v (x ∷ d) l = refl
  fill_suc (suc n) v (x ∷ d) l = ap (λ (t : List A). v ∷ t) (fill_suc n v d (le_of_suc-le-suc l))

  copy_suc : (n : ℕ) (z : A) (s d : List A) → n < length s → n < length d → set (take n s ++ drop n d) n (get_or s n z) ≡ take (suc n) s ++ drop (suc n) d
  copy_suc n z [] d h l = absurd (not-suc-le-zero h)
  copy_suc n z (y ∷ s) [] h l = absurd (not-suc-le-zero l)
  copy_suc zero z (y ∷ s) (x ∷ d) h l = refl
  copy_suc (suc n) z (y ∷ s) (x ∷ d) h l = ap (λ (t : List A). y ∷ t) (copy_suc n z s d (le_of_suc-le-suc h) (le_of_suc-le-suc l))

  -- ---- d was d₀, and its first i elements are v
  pub record Filled (v : A) (d₀ d : List A) (i : ℕ) : Type 0 where
    pub upto : i ≤ length d₀
    pub is : d ≡ replicate i v ++ drop i d₀
    pub long : length d ≡ length d₀

  pub fill_start : (v : A) (d₀ : List A) → Filled v d₀ d₀ 0
  fill_start v d₀ = record { upto = omega arith; is = refl; long = refl }

  pub fill_turn : {v : A} {d₀ d : List A} {i : ℕ} → Filled v d₀ d i → i < length d → Filled v d₀ (set d i v) (i + 1)
  fill_turn {v} {d₀} {d} {i} h l =
      let k : i < length d₀ = omega (arith, h.long) in
      record { upto = omega arith; is = rw (h.is, add-one) (fill_suc i v d₀ k); long = length-set d i v ∙ h.long }

  pub fill_stop : {v : A} {d₀ d : List A} {i : ℕ} → Filled v d₀ d i → length d ≤ i → d ≡ replicate (length d₀) v
  fill_stop {v} {d₀} {d} {i} h l = let e : i ≡ length d₀ = omega (arith, h.long, h.upto) in h.is ∙ rw (e, drop-length, append-nil)

  -- ---- d was d₀, and its first i elements are those of s, which is as long
  pub record Copied (s d₀ d : List A) (i : ℕ) : Type 0 where
    pub same : length s ≡ length d₀
    pub upto : i ≤ length d₀
    pub is : d ≡ take i s ++ drop i d₀
    pub long : length d ≡ length d₀

  pub copy_start : (s d₀ : List A) → length s ≡ length d₀ → Copied s d₀ d₀ 0
  copy_start s d₀ e = record { same = e; upto = omega arith; is = refl; long = refl }

  pub copy_turn : {s d₀ d : List A} {i : ℕ} (z : A) → Copied s d₀ d i → i < length d → Copied s d₀ (set d i (get_or s i z)) (i + 1)
  copy_turn {s} {d₀} {d} {i} z h l =
      let k : i < length d₀ = omega (arith, h.long) in
      let j : i < length s = omega (arith, h.same) in
      record { same = h.same; upto = omega arith; is = rw (h.is, add-one) (copy_suc i z s d₀ j k); long = length-set d i (get_or s i z) ∙ h.long }

  pub copy_stop : {s d₀ d : List A} {i : ℕ} → Copied s d₀ d i → length d ≤ i → d ≡ s
  copy_stop {s} {d₀} {d} {i} h l =
      let e : i ≡ length s = omega (arith, h.long, h.upto, h.same) in
      let f : drop (length s) d₀ ≡ [] = ap (λ (n : ℕ). drop n d₀) h.same ∙ drop-length d₀ in
      h.is ∙ rw (e, take-length, f, append-nil)

  -- ---- d was d₀, and its first i elements are those of s, which is no longer than d₀
  pub record Laid (s d₀ d : List A) (i : ℕ) : Type 0 where
    pub room : length s ≤ length d₀
    pub upto : i ≤ length s
    pub is : d ≡ take i s ++ drop i d₀
    pub long : length d ≡ length d₀

  pub lay_start : (s d₀ : List A) → length s ≤ length d₀ → Laid s d₀ d₀ 0
  lay_start s d₀ h = record { room = h; upto = omega arith; is = refl; long = refl }

  pub lay_turn : {s d₀ d : List A} {i : ℕ} (z : A) → Laid s d₀ d i → i < length s → {x : A} → x ≡ get_or s i z → Laid s d₀ (set d i x) (i + 1)
  lay_turn {s} {d₀} {d} {i} z h l {x} e =
      let k : i < length d₀ = omega (arith, h.room) in
      record { room = h.room; upto = omega arith; is = rw (e, h.is, add-one) (copy_suc i z s d₀ l k); long = length-set d i x ∙ h.long }

  pub lay_stop : {s d₀ d : List A} {i : ℕ} → Laid s d₀ d i → length s ≤ i → d ≡ s ++ drop (length s) d₀
  lay_stop {s} {d₀} {d} {i} h l = let e : i ≡ length s = omega (arith, h.upto) in h.is ∙ rw (e, take-length)
