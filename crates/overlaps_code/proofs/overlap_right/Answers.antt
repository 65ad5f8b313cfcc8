use mathlib.Core.Path.{◌∙◌, ap}
use Rattle.geometry.specs.Positions.{is_less, is_greater}
use Rattle.geometry_code.specs.Code.{fraction_of}
use Rattle.overlaps_code.proofs.Window.{right_first, right_second, right_yes, right_no}
use Rattle.overlaps_code.proofs.overlap_right.Goals as goal

pub returns-then-is_lt : goal.returns-then-is_lt
returns-then-is_lt c A B h =
    let s = c.args in
    let p = fraction_of s.p in
    right_yes A B p
    (right_first A B s.m s.k p h (c.is_lt.ensures ∙ ap is_less c.order_right.ensures) ∙ c.if-is_lt.true)
    (right_second A B s.m s.k p h (c.is_gt.ensures ∙ ap is_greater c.order_right-then-is_lt.ensures))

pub returns-else-is_lt : goal.returns-else-is_lt
returns-else-is_lt c A B h =
    let s = c.args in
    let p = fraction_of s.p in
    c.if-is_lt.false ∙ right_no A B p (right_first A B s.m s.k p h (c.is_lt.ensures ∙ ap is_less c.order_right.ensures) ∙ c.if-is_lt.false)
