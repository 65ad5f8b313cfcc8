-- A part of a layer, and the stages of no trapezoids.
use mathlib.Core.Path.{◌≡◌, refl, ap}
use mathlib.Core.Bool.{true, false}
use mathlib.Core.List.{List, []}
use Prim.Native.Nat.{ℕ, ◌<◌, ◌≤◌}
use native.Mathlib.Omega.{arith}
use lib.IntN.{ℤ}
use Rattle.records.specs.Records.{count}
use Rattle.geometry.specs.Trapezoids.{trapezoid_codec, layer_of}
use Rattle.extraction.specs.Shapes.{is_some}
use Rattle.shapes_code.specs.Code.{trapezoids_between}
use Rattle.shapes_code.proofs.Parts.{part_length, part_none, part_count, part_layer}
use Rattle.enclosure_code.proofs.Answers.{some_of}
use Rattle.geometry.specs.declared.Trapezoid.{Trapezoid}
use Rattle.boolean.specs.Space.{enough, space}

pub none_enough : (room : ℕ) → space room [] ≡ enough 0
unfolding space
none_enough room = refl

-- ---- a part of a layer, with no trapezoids or with some
pub part_empty : (ts : List Trapezoid) (a e : ℕ) → e ≤ a → is_some (trapezoids_between a e ts) ≡ false
part_empty ts a e l = ap is_some (part_none a e ts l)

pub part_some : (s : List ℤ) (a e : ℕ) → a < e → e ≤ count trapezoid_codec s → is_some (trapezoids_between a e (layer_of s)) ≡ true
part_some s a e l k = some_of (trapezoids_between a e (layer_of s)) (omega (arith, l, part_length s a e (omega (arith, l)) k))

-- what `enclose_one` knows of the part that it tries
pub ruleset parts = (none_enough, part_empty, part_some, part_count, part_layer)
