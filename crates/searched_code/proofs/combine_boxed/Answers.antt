use mathlib.Core.Path.{◌≡◌, sym, ◌∙◌}
use lib.ListN.{length}
use lib.IntN.{pos}
use Rattle.geometry.specs.Trapezoids.{layer_of}
use Rattle.sources.specs.Sourced.{sourced_of}
use Rattle.boolean.specs.Operations.{code_at}
use Rattle.boolean.specs.Sources.{sourced_result}
use Rattle.boolean.specs.Space.{stages}
use Rattle.boxes_code.proofs.BoxedLayers.{layer_boxed}
use Rattle.calls.specs.Outcomes.{zeros, room_of}
use Rattle.calls.proofs.Checks.{Buffers, buffers_ready}
use Rattle.calls.proofs.Overlaps.{small_both}
use Rattle.rows_code.proofs.Cleared.{small_refused, cleared-length, cleared_borrowed, blank-zeros}
use Rattle.disjoint_code.proofs.Rows.{layer_few}
use Rattle.searched_code.proofs.Outcomes.{combine_refuses, small_done}
use Rattle.searched_code.proofs.combine_boxed.Goals as goal

pub returns-in-Err : goal.returns-in-Err
returns-in-Err c =
    let s = c.args in
    let e = sym c.in-Err.ensures in
    record { combine_searched = combine_refuses s.code s.a.words.now s.b.words.now s.out.now s.scratch.now e; small = small_refused e (small_both s.a.words.now s.b.words.now (layer_few (layer_boxed s.a)) (layer_few (layer_boxed s.b))) }

pub combine_boxed-requires-clause-code_bound : goal.combine_boxed-requires-clause-code_bound
combine_boxed-requires-clause-code_bound c = (c.requires.code_bound, layer_boxed c.args.a, layer_boxed c.args.b)

pub combine_boxed-requires-clause-borrowed : goal.combine_boxed-requires-clause-borrowed
combine_boxed-requires-clause-borrowed c =
    let buffers = buffers_ready (length c.args.out.now) (length c.args.scratch.now) c.requires.scratch_value in
    (cleared_borrowed c.clear_both.new.out (length c.args.out.now) c.clear_both.ensures.0, buffers.few)

pub returns-in-Ok-clause-small : goal.returns-in-Ok-clause-small
returns-in-Ok-clause-small c =
    let s = c.args in
    let a = s.a.words.now in
    let b = s.b.words.now in
    let buffers = buffers_ready (length s.out.now) (length s.scratch.now) c.requires.scratch_value in
    let z = c.clear_both in
    let f = c.combine_boxed in
    let m = cleared-length z.new.out (length s.out.now) z.ensures.0 in
    let blanked : f.new.scratch ≡ zeros (length s.out.now) =
    blank-zeros f.new.scratch (length s.out.now) f.ensures.blank (f.auto.scratch ∙ cleared-length z.new.scratch (length s.scratch.now) z.ensures.1 ∙ buffers.same) in
    small_done (room_of s.out.now) (sourced_result (code_at s.code) (sourced_of a) (sourced_of b)) (stages (code_at s.code) (layer_of a) (layer_of b)) f.result (length s.out.now) (length z.new.out) f.new.out f.new.scratch f.ensures.result_written m blanked buffers.few f.ensures.overlays_within c.in-Ok.is
