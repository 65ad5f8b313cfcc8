use native.Mathlib.Omega.{arith}
use Rattle.shapes_code.proofs.Shapes.{grouped_count, grouped_fit, grouped_shapes}
use Rattle.shapes_code.proofs.shapes_into.Goals as goal

pub fill_boxes-requires : goal.fill_boxes-requires
fill_boxes-requires c =
    let b = c.requires.boxed_layer in
    let are = c.components_boxed.ensures.numbers_after in
    let g = c.group.ensures in
    (grouped_fit b.layer are g, omega (arith, grouped_count b.layer are g, b.boxes.room))

pub returns : goal.returns
returns c =
    grouped_shapes c.requires.boxed_layer.layer c.components_boxed.ensures.numbers_after c.group.ensures c.fill_boxes.ensures.boxes_of
