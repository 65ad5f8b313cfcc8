use native.Mathlib.Omega.{arith}
use Rattle.shapes_code.proofs.Parts.{part_boxed}
use Rattle.enclosure_code.proofs.enclose_one.Goals as goal

pub enclosure-requires-clause-boxed_layer : goal.enclosure-requires-clause-boxed_layer
enclosure-requires-clause-boxed_layer c =
    let a = c.args in
    let h = c.requires in
    (h.boxed_layer.0, part_boxed a.layer.now a.boxes.now h.part_within.0 a.start a.end (omega (arith, c.if-end-start.false)) h.part_within.1)
