use mathlib.Core.Path.{sym, ◌∙◌}
use Rattle.remainder_code.proofs.Boxed.{stand_by_boxes}
use Rattle.difference_code.proofs.reduce_at.Goals as goal

pub returns-then-boxes_disjoint : goal.returns-then-boxes_disjoint
returns-then-boxes_disjoint c =
    let a = c.args in
    let h = c.requires in
    record { minus_written = stand_by_boxes a.out.now a.n a.room a.layer.now a.boxes.now a.i a.e h.remaining.0 h.remaining.1 h.boxed_layer.0 h.boxed_layer.1 (sym c.boxes_disjoint.ensures ∙ c.if-boxes_disjoint.true); blank = h.scratch_for.0 }
