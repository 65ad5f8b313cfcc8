-- The triples by the marks of layers.
use mathlib.Core.Path.{◌≡◌, sym, ◌∙◌, ap}
use mathlib.Core.List.{List}
use Prim.Native.Nat.{ℕ, ◌≤◌}
use native.Mathlib.Omega.{arith}
use lib.ListN.{length}
use lib.IntN.{ℤ}
use Rattle.records.specs.Limits.{max_records}
use Rattle.geometry.specs.declared.Trapezoid.{Trapezoid}
use Rattle.geometry.specs.Fitness.{FitLayer}
use Rattle.geometry.specs.Limit.{coordinate_limit}
use Rattle.geometry.specs.Trapezoids.{trapezoid_codec, layer_of}
use Rattle.records.specs.Records.{count}
use Rattle.marking_code.specs.Code.{MarkedAs}
use Rattle.marking_code.proofs.Shapes.{layer-length}
use Rattle.extraction.specs.Extraction.{triples}
use Rattle.extraction.proofs.Triples.{triples_few}
use Rattle.triples_code.specs.Code.{marked_triples}
use Rattle.extraction_code.proofs.Marks.{marked_triples_lem}

-- the triples by the marks, where the collectors are the layer s
pub layer_triples : (s : List ℤ) (B E : List Trapezoid) (ds es : List ℕ) → MarkedAs (layer_of s) B ds → MarkedAs B E es → marked_triples (count trapezoid_codec s) ds es ≡ triples (layer_of s) B E
layer_triples s B E ds es m n = ap (λ (k : ℕ). marked_triples k ds es) (sym (layer-length s)) ∙ marked_triples_lem m n

pub layer_triples_few : (a b c : List ℤ) → FitLayer a → FitLayer b → FitLayer c → length (triples (layer_of a) (layer_of b) (layer_of c)) ≤ max_records
layer_triples_few a b c f g h = omega (arith, triples_few coordinate_limit (layer_of a) (layer_of b) (layer_of c) f.fit g.fit h.fit, layer-length c, h.few)
