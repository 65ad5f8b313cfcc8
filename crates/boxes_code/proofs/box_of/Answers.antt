use mathlib.Core.Path.{◌≡◌, ◌∙◌, ap, ap₂}
use Rattle.integer.specs.Integer.{⊝◌}
use Rattle.integer.specs.Fraction.{Fraction}
use Rattle.boxes.specs.Whole.{floor, ceiling}
use Rattle.boxes.specs.Boxes.{height_below, height_above, lowest, highest, left_end, right_end, box_of}
use Rattle.boxes_code.proofs.Slices.{same_box}
use Rattle.boxes_code.proofs.box_of.Goals as goal

pub returns : goal.returns
unfolding box_of left_end right_end lowest highest height_below height_above ⊝◌
returns c =
    let h = c.requires in
    let t = c.args.a.shape in
    let left : c.floor-left.result.v ≡ left_end t = c.floor-left.ensures.v_value ∙ ap (λ (p : Fraction). floor p.num p.den) h.left.is in
    let right : c.ceiling-right.result.v ≡ right_end t = c.ceiling-right.ensures.v_value ∙ ap (λ (p : Fraction). ceiling p.num p.den) h.right.is in
    let bottom = c.end_height.ensures floor (λ n d m p. p.2.0) ∙ ap₂ (lowest t.bottom) left right in
    let top = c.end_height-2.ensures ceiling (λ n d m p. p.2.0) ∙ ap₂ (highest t.top) left right in
    same_box left right bottom top
