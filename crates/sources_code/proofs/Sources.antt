-- One set written over those of the first records: what a buffer of trapezoids with empty sets becomes.
use mathlib.Core.Path.{◌≡◌, refl, sym, ap, ◌∙◌}
use mathlib.Core.List.{List, [], ◌∷◌, ◌++◌, append_assoc}
use Prim.Native.Nat.{ℕ, zero, suc, ◌+◌, ◌*◌, ◌-◌, ◌<◌, ◌≤◌}
use native.Mathlib.Omega.{arith}
use lib.IntN.{ℤ, pos}
use lib.ListN.{length, set, replicate, length-set}
use Rattle.records.specs.Limits.{memory_width, file_width}
use Rattle.records.specs.Records.{words_of, image}
use Rattle.geometry.specs.declared.Trapezoid.{Trapezoid}
use Rattle.geometry.specs.Trapezoids.{trapezoid_words, trapezoid_codec}
use Rattle.sources.specs.Sourced.{sourced_codec, bearing}
use Rattle.sources.proofs.Sourced.{sourced_faithful, bearing-length}
use Rattle.sources_code.specs.Code.{with_sources}

module _ (z : ℤ) where
  pub with_sources_length : (n : ℕ) (d : List ℤ) → length (with_sources z n d) ≡ length d
  unfolding with_sources
  with_sources_length zero d = refl
  with_sources_length (suc n) d = length-set (with_sources z n d) (memory_width * n + file_width) z ∙ with_sources_length n d

  -- ---- past the first record
  abbrev bare : Trapezoid → List ℤ
  bare t = trapezoid_codec.encode t

  abbrev sourced : Trapezoid → List ℤ
  sourced t = sourced_codec.encode (record { shape = t; sources = z })

  sourced_length : (t : Trapezoid) → length (sourced t) ≡ memory_width
  sourced_length t = sourced_faithful.readable.encode_length (record { shape = t; sources = z })

  set_first : (t : Trapezoid) (d : List ℤ) → set (bare t ++ d) file_width z ≡ sourced t ++ d
  unfolding trapezoid_words
  set_first t d = refl

  set_past : (s d : List ℤ) (i : ℕ) → set (s ++ d) (i + length s) z ≡ s ++ set d i z
  set_past [] d i = let e : i + 0 ≡ i = omega arith in ap (λ (k : ℕ). set d k z) e
  set_past (w ∷ s) d i =
      let e : i + suc (length s) ≡ suc (i + length s) = omega arith in
      ap (λ (k : ℕ). set (w ∷ (s ++ d)) k z) e ∙ ap (λ (r : List ℤ). w ∷ r) (set_past s d i)

  with_past : (t : Trapezoid) (n : ℕ) (d : List ℤ) → with_sources z (suc n) (bare t ++ d) ≡ sourced t ++ with_sources z n d
  unfolding with_sources
  with_past t zero d = set_first t d
  with_past t (suc n) d =
      let e : memory_width * suc n + file_width ≡ memory_width * n + file_width + length (sourced t) = omega (arith, sourced_length t) in
      (λ j. set (with_past t n d j) (e j) z) ∙ set_past (sourced t) (with_sources z n d) (memory_width * n + file_width)

  -- ---- all of them
  with_words : (ts : List Trapezoid) (d : List ℤ) → with_sources z (length ts) (words_of trapezoid_codec ts ++ d) ≡ words_of sourced_codec (bearing z ts) ++ d
  unfolding with_sources words_of
  with_words [] d = refl
  with_words (t ∷ ts) d =
      ap (with_sources z (suc (length ts))) (append_assoc (bare t) (words_of trapezoid_codec ts) d)
      ∙ with_past t (length ts) (words_of trapezoid_codec ts ++ d)
      ∙ ap (λ (s : List ℤ). sourced t ++ s) (with_words ts d)
      ∙ sym (append_assoc (sourced t) (words_of sourced_codec (bearing z ts)) d)

  -- whatever the length N is
  pub with_sources_image : (N : ℕ) (ts : List Trapezoid) → with_sources z (length ts) (image trapezoid_codec N ts) ≡ image sourced_codec N (bearing z ts)
  with_sources_image N ts =
      with_words ts (replicate (N - memory_width * length ts) (pos 0))
      ∙ ap (λ (n : ℕ). words_of sourced_codec (bearing z ts) ++ replicate (N - memory_width * n) (pos 0)) (sym (bearing-length z ts))

-- ---- the loop: d was d₀, and the first i of n sets are z
pub record Overwritten (z : ℤ) (n : ℕ) (d₀ d : List ℤ) (i : ℕ) : Type 0 where
  pub upto : i ≤ n
  pub wide : memory_width * n ≤ length d₀
  pub is : d ≡ with_sources z i d₀
  pub long : length d ≡ length d₀

module _ {z : ℤ} {n : ℕ} where
  pub overwritten_start : {d₀ : List ℤ} → memory_width * n ≤ length d₀ → Overwritten z n d₀ d₀ 0
  unfolding with_sources
  overwritten_start w = record { upto = omega arith; wide = w; is = refl; long = refl }

  pub overwritten_turn : {d₀ d : List ℤ} {i : ℕ} → Overwritten z n d₀ d i → i < n → Overwritten z n d₀ (set d (memory_width * i + file_width) z) (i + 1)
  unfolding with_sources
  overwritten_turn {d₀} {d} {i} h l =
      let e : suc i ≡ i + 1 = omega arith in
      record {
        upto = omega arith;
        wide = h.wide;
        is = ap (λ (s : List ℤ). set s (memory_width * i + file_width) z) h.is ∙ ap (λ (k : ℕ). with_sources z k d₀) e;
        long = length-set d (memory_width * i + file_width) z ∙ h.long;
      }

  pub overwritten_stop : {d₀ d : List ℤ} {i : ℕ} → Overwritten z n d₀ d i → n ≤ i → d ≡ with_sources z n d₀
  overwritten_stop {d₀} {d} {i} h l = let e : i ≡ n = omega (arith, h.upto) in h.is ∙ ap (λ (k : ℕ). with_sources z k d₀) e
