-- A buffer that holds trapezoids and is blank past them.
use mathlib.Core.Path.{◌≡◌, refl, sym, ◌∙◌, ap, subst}
use mathlib.Core.List.{List, ◌∷◌, ◌++◌}
use Prim.Native.Nat.{ℕ, zero, suc, ◌+◌, ◌*◌, ◌-◌, ◌≤◌}
use native.Mathlib.Omega.{arith}
use lib.ListN.{length, take, drop, length-drop, take-append-drop}
use lib.Seq.{length-take-le, take-append-le, drop-append-le}
use lib.IntN.{ℤ}
use Rattle.lists.specs.Lists.{All}
use Rattle.records.specs.Limits.{memory_width, max_records}
use Rattle.records.specs.Records.{record_at, records_from}
use Rattle.geometry.specs.Limit.{coordinate_limit}
use Rattle.geometry.specs.Fitness.{FitFor, FitLayer}
use Rattle.geometry.specs.Trapezoids.{trapezoid_codec, layer_of}
use Rattle.remainder_code.specs.Code.{front, leading}
use Rattle.remainder_code.proofs.Leading.{front_count}
use Rattle.deoverlap_code.specs.Code.{BlankPast}

-- ---- the first records of a list of words
-- number i of the first m words is that of the words
pub record_take : (m : ℕ) (s : List ℤ) (i : ℕ) → m ≤ length s → memory_width * i + memory_width ≤ m → record_at trapezoid_codec (take m s) i ≡ record_at trapezoid_codec s i
unfolding record_at
record_take m s i l h =
    let p = take m s in
    let n = length-take-le m s l in
    let e : take memory_width (drop (memory_width * i) (p ++ drop m s)) ≡ take memory_width (drop (memory_width * i) p) =
    ap (take memory_width) (drop-append-le (memory_width * i) p (drop m s) (omega (arith, n, h)))
    ∙ take-append-le memory_width (drop (memory_width * i) p) (drop m s) (omega (arith, length-drop (memory_width * i) p, n, h)) in
    ap trapezoid_codec.decode (sym e ∙ ap (λ (x : List ℤ). take memory_width (drop (memory_width * i) x)) (take-append-drop m s))

from-take : (m n : ℕ) (s : List ℤ) (i : ℕ) → m ≤ length s → memory_width * (i + n) ≤ m → records_from trapezoid_codec n (take m s) i ≡ records_from trapezoid_codec n s i
unfolding records_from
from-take m zero s i l h = refl
from-take m (suc n) s i l h = let t = record_take m s i l (omega (arith, h)) in let ts = from-take m n s (i + 1) l (omega (arith, h)) in λ j. t j ∷ ts j

pub front-layer_is : (d : List ℤ) (k : ℕ) → memory_width * k ≤ length d → layer_of (front d k) ≡ leading d k
front-layer_is d k l = ap (λ (n : ℕ). records_from trapezoid_codec n (front d k) 0) (front_count d k l) ∙ from-take (memory_width * k) k d 0 l (omega arith)

-- ---- a buffer that is blank past them
module _ (d : List ℤ) (k room : ℕ) (h : BlankPast d k room) where
  pub front_fits : memory_width * k ≤ length d
  front_fits = omega (arith, h.within, h.wide)

  pub front_layer : All (FitFor coordinate_limit) (leading d k) → room ≤ max_records → FitLayer (front d k)
  front_layer f l = record { fit = subst (All (FitFor coordinate_limit)) (sym (front-layer_is d k front_fits)) f; few = omega (arith, front_count d k front_fits, h.within, l) }
