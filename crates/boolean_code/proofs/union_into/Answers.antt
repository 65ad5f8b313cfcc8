use mathlib.Core.Path.{◌≡◌, sym, ◌∙◌, ap}
use mathlib.Core.List.{List, ◌++◌}
use Prim.Native.Nat.{ℕ, ◌*◌, ◌≤◌}
use native.Mathlib.Omega.{arith}
use lib.ListN.{length, take, drop}
use lib.IntN.{ℤ}
use Rattle.records.specs.Limits.{memory_width}
use Rattle.records.specs.Records.{count}
use Rattle.geometry.specs.Trapezoids.{trapezoid_codec, layer_of}
use Rattle.sources.specs.Sourced.{sourced_of}
use Rattle.boolean.specs.Operations.{union}
use Rattle.boolean.specs.Sources.{sourced_difference, sourced_result}
use Rattle.boolean.specs.Space.{difference_stages}
use Rattle.boolean_code.proofs.Combining.{copied_no_room, copied_long, copied_holding, copied_folded, result_folded}
use Rattle.boolean_code.proofs.union_into.Goals as goal

pub returns-then-room-n : goal.returns-then-room-n
returns-then-room-n c =
    let a = c.args in
    let A = layer_of a.first.now in
    let B = layer_of a.second.now in
    record { result_written = copied_no_room a.first.now a.out.now a.room c.requires.borrowed.0 (sourced_result union (sourced_of a.first.now) (sourced_of a.second.now)) (λ (k : ℕ). difference_stages k B A) c.if-room-n.true; overlays_within = omega arith; blank = c.requires.scratch_for.0 }

pub difference_into-requires : goal.difference_into-requires
difference_into-requires c =
    let a = c.args in
    let p = c.copy in
    let l : count trapezoid_codec a.first.now ≤ a.room = omega (arith, c.if-room-n.false) in
    let w : p.new.dst ++ drop (memory_width * count trapezoid_codec a.first.now) a.out.now ≡ take (memory_width * count trapezoid_codec a.first.now) a.first.now ++ drop (memory_width * count trapezoid_codec a.first.now) a.out.now
    = ap (λ (u : List ℤ). u ++ drop (memory_width * count trapezoid_codec a.first.now) a.out.now) p.ensures in
    let t = p.new.dst ++ drop (memory_width * count trapezoid_codec a.first.now) a.out.now in
    record { boxed_layer = (c.requires.boxed_layer.1, c.requires.boxed_layer.0); holding = (copied_holding a.first.now a.out.now a.room c.requires.borrowed.0 l t w, c.requires.borrowed.1); scratch_for = (c.requires.scratch_for.0, c.requires.scratch_for.1 ∙ sym (copied_long a.first.now a.out.now a.room c.requires.borrowed.0 l t w)) }

pub returns : goal.returns
returns c =
    let a = c.args in
    let A = layer_of a.first.now in
    let B = layer_of a.second.now in
    let p = c.copy in
    let l : count trapezoid_codec a.first.now ≤ a.room = omega (arith, c.if-room-n.false) in
    let w : p.new.dst ++ drop (memory_width * count trapezoid_codec a.first.now) a.out.now ≡ take (memory_width * count trapezoid_codec a.first.now) a.first.now ++ drop (memory_width * count trapezoid_codec a.first.now) a.out.now
    = ap (λ (u : List ℤ). u ++ drop (memory_width * count trapezoid_codec a.first.now) a.out.now) p.ensures in
    let t = p.new.dst ++ drop (memory_width * count trapezoid_codec a.first.now) a.out.now in
    let r = c.difference_into in
    let d = r.new.out in
    record {
      result_written = result_folded union (length a.out.now) a.room a.first.now a.second.now r.result d
          (copied_folded a.first.now a.out.now a.room c.requires.borrowed.0 l t w (sourced_difference (sourced_of a.second.now) A) (λ (k : ℕ). difference_stages k B A) r.result d r.ensures.difference_added);
      overlays_within = r.ensures.overlays_within;
      blank = r.ensures.blank;
    }
