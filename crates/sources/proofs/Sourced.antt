-- Trapezoids with their sets as words of memory: nothing is lost, whatever the words are; and what becomes of them without their sets.
use mathlib.Core.Path.{◌≡◌, refl, ap, ◌∙◌}
use mathlib.Core.List.{List, [], ◌∷◌, ◌++◌, map-append}
use Prim.Native.Nat.{ℕ, zero, suc, ◌+◌, ◌*◌, ◌-◌}
use native.Mathlib.Omega.{arith}
use lib.IntN.{ℤ, pos}
use lib.ListN.{length, take, drop, replicate}
use lib.Seq.{get_or-take, get_or-drop}
use Rattle.records.specs.Limits.{memory_width, file_width}
use Rattle.records.specs.Records.{record_at, records_from, words_of, image}
use Rattle.geometry.specs.declared.Trapezoid.{Trapezoid}
use Rattle.geometry.specs.Trapezoids.{trapezoid_of, trapezoid_words, trapezoid_codec}
use Rattle.geometry.proofs.Trapezoids.{spell}
use Rattle.sources.specs.Sets.{empty}
use Rattle.sources.specs.Sourced.{Sourced, sourced_codec, sources_at, shapes, bearing}
use Rattle.sources.specs.Statements.{SourcedFaithful, ShapesOf, EmptyWords}

pub sourced_faithful : SourcedFaithful
unfolding trapezoid_words trapezoid_of
sourced_faithful =
    record {
      readable = record { some = omega arith; encode_length = λ r. refl; decode_encode = λ r g. refl };
      encode_decode = λ r h g. spell memory_width 0 r (omega (arith, h));
    }

-- ---- number i
pub sourced_at : (s : List ℤ) (i : ℕ) → record_at sourced_codec s i ≡ record { shape = record_at trapezoid_codec s i; sources = sources_at s i }
unfolding record_at
sourced_at s i =
    let r = take memory_width (drop (memory_width * i) s) in
    let e = get_or-take memory_width (drop (memory_width * i) s) file_width (pos 0) (omega arith) ∙ get_or-drop (memory_width * i) s file_width (pos 0) in
    λ j. record { shape = trapezoid_of r; sources = e j }

-- ---- without their sets
pub shapes-from : (n : ℕ) (s : List ℤ) (i : ℕ) → shapes (records_from sourced_codec n s i) ≡ records_from trapezoid_codec n s i
unfolding records_from record_at
shapes-from zero s i = refl
shapes-from (suc n) s i = ap (λ (ts : List Trapezoid). record_at trapezoid_codec s i ∷ ts) (shapes-from n s (i + 1))

pub shapes_of : ShapesOf
shapes_of s = shapes-from _ s 0

pub shapes_append : (rs qs : List Sourced) → shapes (rs ++ qs) ≡ shapes rs ++ shapes qs
shapes_append rs qs = map-append (λ (r : Sourced). r.shape) rs qs

pub shapes-length : (rs : List Sourced) → length (shapes rs) ≡ length rs
shapes-length [] = refl
shapes-length (r ∷ rs) = ap suc (shapes-length rs)

-- ---- with one set
pub bearing_append : (z : ℤ) (ts us : List Trapezoid) → bearing z (ts ++ us) ≡ bearing z ts ++ bearing z us
bearing_append z ts us = map-append (λ (t : Trapezoid). record { shape = t; sources = z }) ts us

pub bearing-length : (z : ℤ) (ts : List Trapezoid) → length (bearing z ts) ≡ length ts
bearing-length z [] = refl
bearing-length z (t ∷ ts) = ap suc (bearing-length z ts)

pub shapes-bearing : (z : ℤ) (ts : List Trapezoid) → shapes (bearing z ts) ≡ ts
shapes-bearing z [] = refl
shapes-bearing z (t ∷ ts) = ap (λ (us : List Trapezoid). t ∷ us) (shapes-bearing z ts)

pub empty_words : EmptyWords
unfolding words_of
empty_words [] = refl
empty_words (t ∷ ts) = ap (λ (ws : List ℤ). (trapezoid_words t ++ (empty ∷ [])) ++ ws) (empty_words ts)

pub empty_image : (n : ℕ) (ts : List Trapezoid) → image sourced_codec n (bearing empty ts) ≡ image trapezoid_codec n ts
empty_image n ts =
    let l = bearing-length empty ts in
    (λ j. empty_words ts j ++ replicate (n - memory_width * l j) (pos 0))
