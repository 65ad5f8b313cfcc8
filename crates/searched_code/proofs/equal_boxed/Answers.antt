use mathlib.Core.Path.{sym}
use lib.ListN.{length}
use Rattle.boxes_code.proofs.BoxedLayers.{layer_boxed}
use Rattle.calls.proofs.Checks.{buffers_ready}
use Rattle.calls.proofs.Overlaps.{small_both}
use Rattle.rows_code.proofs.Cleared.{small_refused, cleared_borrowed}
use Rattle.disjoint_code.proofs.Rows.{layer_few}
use Rattle.searched_code.proofs.Outcomes.{equal_refuses}
use Rattle.searched_code.proofs.equal_boxed.Goals as goal

pub returns-in-Err : goal.returns-in-Err
returns-in-Err c =
    let s = c.args in
    let e = sym c.in-Err.ensures in
    record { equal_searched = equal_refuses s.a.words.now s.b.words.now s.out.now s.scratch.now e; small = small_refused e (small_both s.a.words.now s.b.words.now (layer_few (layer_boxed s.a)) (layer_few (layer_boxed s.b))) }

pub equal_boxed-requires-clause-boxed_layer : goal.equal_boxed-requires-clause-boxed_layer
equal_boxed-requires-clause-boxed_layer c = (layer_boxed c.args.a, layer_boxed c.args.b)

pub equal_boxed-requires-clause-borrowed : goal.equal_boxed-requires-clause-borrowed
equal_boxed-requires-clause-borrowed c =
    let buffers = buffers_ready (length c.args.out.now) (length c.args.scratch.now) c.requires.scratch_value in
    (cleared_borrowed c.clear_both.new.out (length c.args.out.now) c.clear_both.ensures.0, buffers.few)
