use mathlib.Core.Path.{sym, ◌∙◌, ap}
use Rattle.std.specs.Ordering.{ordering_then, is_lt}
use Rattle.columns_code.proofs.SideOrder.{less_then, less_first, less_second, less_neither}
use Rattle.columns_code.proofs.side_less.Goals as goal

pub returns-in-true-true : goal.returns-in-true-true
returns-in-true-true c A B x h =
    let s = c.args in
    let second = sym c.in-true-true.ensures' in
    c.is_lt.ensures
    ∙ ap is_lt (c.then.ensures ∙ ap (ordering_then c.order_of.result) c.cmp.ensures)
    ∙ less_then A B x s.in_a s.in_b s.i s.j c.order_of.result (sym c.in-true-true.ensures) second (c.order_of.ensures A B x _ _ h second)

pub returns-in-true-false : goal.returns-in-true-false
returns-in-true-false c A B x h =
    let s = c.args in
    less_first A B x s.in_a s.in_b s.i s.j (sym c.in-true-false.ensures) (sym c.in-true-false.ensures')

pub returns-in-false-true : goal.returns-in-false-true
returns-in-false-true c A B x h =
    let s = c.args in
    less_second A B x s.in_a s.in_b s.i s.j (sym c.in-false-true.ensures) (sym c.in-false-true.ensures')

pub returns-in-false-false : goal.returns-in-false-false
returns-in-false-false c A B x h =
    let s = c.args in
    less_neither A B x s.in_a s.in_b s.i s.j (sym c.in-false-false.ensures) (sym c.in-false-false.ensures')
