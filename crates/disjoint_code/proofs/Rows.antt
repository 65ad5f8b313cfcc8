-- Row 13 of two layers and of three, way by way.
use mathlib.Core.Path.{◌≡◌}
use mathlib.Core.List.{List}
use Prim.Native.Nat.{◌+◌, ◌≤◌}
use native.Mathlib.Omega.{arith}
use lib.ListN.{length}
use lib.IntN.{ℤ}
use Rattle.records.specs.Limits.{max_records}
use Rattle.records.specs.Records.{count}
use Rattle.records.proofs.Records.{length_from}
use Rattle.geometry.specs.Trapezoids.{trapezoid_codec, layer_of}
use Rattle.overlay.specs.Overlaps.{first_overlap}
use Rattle.calls.specs.Rows.{both_disjoint}
use Rattle.calls.specs.Transistors.{three_disjoint}
use Rattle.boxes_code.specs.Code.{BoxedLayer}
use Rattle.std.specs.Prelude.{Ok}

-- a layer has at most 512 trapezoids
pub layer_few : {s d : List ℤ} → BoxedLayer s d → length (layer_of s) ≤ max_records
layer_few {s} h = omega (arith, length_from trapezoid_codec (count trapezoid_codec s) s 0, h.layer.few)

module _ (a b : List ℤ) where
  pub second_decides : first_overlap 0 (layer_of a) ≡ Ok tt → first_overlap (count trapezoid_codec a) (layer_of b) ≡ both_disjoint a b
  second_decides e = rw (e, length_from trapezoid_codec (count trapezoid_codec a) a 0)

  module _ (c : List ℤ) where
    pub third_decides : both_disjoint a b ≡ Ok tt → first_overlap (count trapezoid_codec a + count trapezoid_codec b) (layer_of c) ≡ three_disjoint a b c
    third_decides e = rw (e, length_from trapezoid_codec (count trapezoid_codec a) a 0, length_from trapezoid_codec (count trapezoid_codec b) b 0)
