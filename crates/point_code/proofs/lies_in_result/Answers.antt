use mathlib.Core.Path.{◌∙◌, ap}
use mathlib.Core.Bool.{Bool}
use Rattle.geometry.specs.Limit.{coordinate_limit}
use Rattle.geometry.specs.Trapezoids.{layer_of, lies_in_layer}
use Rattle.boolean.specs.Operations.{code_at, says}
use Rattle.geometry_code.specs.Code.{point_of}
use Rattle.point_code.proofs.Containing.{result_says}
use Rattle.point_code.proofs.lies_in_result.Goals as goal

pub returns : goal.returns
returns c =
    let s = c.args in
    let P = point_of s.x s.y s.d in
    c.says.ensures
    ∙ ap (λ (i : Bool). says (code_at s.code) i c.lies_in-in_second.result) c.lies_in-in_first.ensures
    ∙ ap (says (code_at s.code) (lies_in_layer P (layer_of s.first.now))) c.lies_in-in_second.ensures
    ∙ result_says coordinate_limit (layer_of s.first.now) (layer_of s.second.now) c.requires.1.fit c.requires.2.fit P c.requires.4 (code_at s.code)
