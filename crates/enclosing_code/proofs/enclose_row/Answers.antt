use native.Mathlib.Omega.{arith}
use Rattle.shapes_code.proofs.Parts.{part_count, part_boxed}
use Rattle.enclosing_code.proofs.enclose_row.Goals as goal

pub enclose_each-requires-clause-boxed_layer : goal.enclose_each-requires-clause-boxed_layer
enclose_each-requires-clause-boxed_layer c =
    let a = c.args in
    let h = c.requires.boxed_layer in
    let l = c.if-end-start.false in
    (part_boxed a.first.now a.first_boxes.now h.0 a.start a.end (omega (arith, l)) h.1, omega (arith, part_count a.first.now a.start a.end (omega (arith, l)) h.1, l), h.2)
