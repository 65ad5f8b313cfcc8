-- A difference in a blank buffer: what its answer counts, and its trapezoids cleared again.
use Rattle.std.specs.Prelude.{Result, Ok, Err}
use mathlib.Core.Path.{◌≡◌, refl, sym, ◌∙◌, ap, subst}
use mathlib.Core.List.{List, [], ◌∷◌, ◌++◌}
use Prim.Native.Nat.{ℕ, ◌+◌, ◌*◌, ◌-◌, ◌≤◌}
use native.Mathlib.Omega.{arith}
use lib.ListN.{length, take, drop, replicate, replicate-append-replicate}
use lib.Seq.{length-take-le}
use lib.IntN.{ℤ, pos}
use Rattle.records.specs.Limits.{memory_width}
use Rattle.records.specs.Records.{Blank}
use Rattle.records.proofs.Buffer.{blank_of, image_drop}
use Rattle.geometry.specs.declared.Trapezoid.{Trapezoid}
use Rattle.geometry.specs.Trapezoids.{layer_of}
use Rattle.sources.specs.Sourced.{Sourced, sourced_codec, sourced_of}
use Rattle.sources.proofs.Sourced.{sourced_faithful}
use Rattle.boolean.specs.declared.Folded.{Folded}
use Rattle.boolean.specs.Space.{Stage, difference_stages}
use Rattle.boolean.specs.Sources.{sourced_difference}
use Rattle.boolean.specs.declared.NoRoom.{NoRoom}
use Rattle.boolean.specs.Folds.{folded}
use Rattle.bearing_code.specs.Code.{SourcedAs}
use Rattle.difference_code.proofs.Folds.{difference-count}
use Rattle.counted_difference_code.specs.Code.{DifferenceCounted}

-- ---- what it counts
pub folded_counted : (n room : ℕ) (s : List ℤ) (B : List Trapezoid) (r : Result Folded NoRoom) (t : List ℤ) → SourcedAs n room (sourced_difference (sourced_of s) B) (difference_stages 0 (layer_of s) B) r t → DifferenceCounted room (layer_of s) B r
folded_counted n room s B (Err r) t g = g.0
folded_counted n room s B (Ok p) t g = (g.0, g.1.0 ∙ difference-count s B)

pub none_left : (ts : List Trapezoid) → length ts ≡ 0 → ts ≡ []
none_left [] e = refl
none_left (t ∷ ts) e = absurd (omega (arith, e))

-- ---- cleared again
module _ (n room : ℕ) (ts : List Sourced) (ms : List Stage) (p c : ℕ) (t : List ℤ) (g : SourcedAs n room ts ms (folded p c) t) (long : length t ≡ n) (wide : memory_width * room ≤ n) where
  pub left_words : memory_width * p ≤ length t
  left_words = omega (arith, g.1.0, g.1.1, long, wide)

  pub left_length : memory_width * p ≡ length (take (memory_width * p) t)
  left_length = sym (length-take-le (memory_width * p) t left_words)

  pub left_cleared : (u : List ℤ) → u ≡ replicate (length (take (memory_width * p) t)) (pos 0) → Blank (pos 0) (u ++ drop (memory_width * p) t)
  left_cleared u e =
      let m = memory_width * length ts in
      let z : drop (memory_width * p) t ≡ replicate (n - m) (pos 0) = (λ j. drop (memory_width * g.1.0 j) (g.1.2 j)) ∙ image_drop sourced_codec sourced_faithful.readable n ts in
      blank_of (pos 0) (u ++ drop (memory_width * p) t) (memory_width * p + (n - m)) ((λ j. e j ++ z j) ∙ ap (λ (x : ℕ). replicate x (pos 0) ++ replicate (n - m) (pos 0)) (sym left_length) ∙ replicate-append-replicate (memory_width * p) (n - m) (pos 0))
