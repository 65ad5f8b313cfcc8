-- The yes or no of a point and a layer says what it means.
use mathlib.Core.List.{[], ◌∷◌, List}
use mathlib.Core.Logic.Iff
use mathlib.Core.Path.{◌≡◌, sym, subst}
use Prim.Native.Nat.{ℕ, zero, suc, ◌+◌, ◌<◌}
use native.Mathlib.Omega.{arith}
use lib.Dec.{T}
use lib.IntN.{ℤ}
use Rattle.lists.specs.Lists.{All}
use Rattle.lists.proofs.Tests.{or_exact}
use Rattle.records.specs.Records.{record_at, records_from, count}
use Rattle.geometry.specs.Trapezoids.{lies_in, LiesInLayer, lies_in_layer, LiesInLayerExact, trapezoid_codec, layer_of}
use Rattle.geometry.specs.declared.Trapezoid.{Trapezoid}

pub lies_in-layer_exact : LiesInLayerExact
lies_in-layer_exact P [] = ((λ h. h), (λ h. h))
lies_in-layer_exact P (t ∷ ts) = or_exact (lies_in P t) (lies_in_layer P ts) (T (lies_in P t)) (LiesInLayer P ts) Iff.rfl (lies_in-layer_exact P ts)

-- ---- number i of n records from number k on
all_from : (P : Trapezoid → Type 0) (n : ℕ) (s : List ℤ) (k i : ℕ) → All P (records_from trapezoid_codec n s k) → i < n → P (record_at trapezoid_codec s (k + i))
unfolding records_from
all_from P zero s k i h l = absurd (omega arith)
all_from P (suc n) s k zero h l = let e : k + zero ≡ k = omega arith in subst (λ (m : ℕ). P (record_at trapezoid_codec s m)) (sym e) h.0
all_from P (suc n) s k (suc i) h l = let e : k + 1 + i ≡ k + suc i = omega arith in subst (λ (m : ℕ). P (record_at trapezoid_codec s m)) e (all_from P n s (k + 1) i h.1 (omega arith))

-- ---- number i of a layer
pub all_record : (P : Trapezoid → Type 0) (s : List ℤ) (i : ℕ) → All P (layer_of s) → i < count trapezoid_codec s → P (record_at trapezoid_codec s i)
all_record P s i h l = let e : 0 + i ≡ i = omega arith in subst (λ (m : ℕ). P (record_at trapezoid_codec s m)) e (all_from P (count trapezoid_codec s) s 0 i h l)
