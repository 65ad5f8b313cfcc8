use mathlib.Core.Path.{sym}
use native.Mathlib.Omega.{arith}
use Rattle.columns_code.proofs.SideOrder.{order_at_lem, order_below_last, order_last, present_A, present_B}
use Rattle.columns_code.proofs.order_up.Goals as goal

pub returns-in-0-eq1 : goal.returns-in-0-eq1
returns-in-0-eq1 c A B x fa fb h p =
    let s = c.args in
    let i = c.in-0-eq1.is-0 in
    let j = c.in-0-eq1.is-1 in
    order_at_lem A B x s.i s.j i j (sym (h.first (present_A fa fb s.i s.j (omega (arith, i)) (omega (arith, j)) p)))

pub returns-in-0-default : goal.returns-in-0-default
returns-in-0-default c A B x fa fb h p =
    let s = c.args in
    let i = c.in-0-default.is-0 in
    let j = c.in-0-default.is-1 in
    order_below_last A B x s.i s.j i (omega (arith, c.requires, i, j.0.1, j.1)) h.o03

pub returns-in-1-default : goal.returns-in-1-default
returns-in-1-default c A B x fa fb h p =
    let s = c.args in
    let i = c.in-1-default.is-0 in
    order_below_last A B x s.i s.j i (omega (arith, c.requires, i, c.in-1-default.is-1.1)) h.o13

pub returns-in-2-default : goal.returns-in-2-default
returns-in-2-default c A B x fa fb h p =
    let s = c.args in
    let i = c.in-2-default.is-0 in
    order_below_last A B x s.i s.j i (omega (arith, c.requires, i)) (sym (h.second (present_B fa fb s.i s.j (omega (arith, i)) (omega (arith, c.requires, i)) p)))

pub returns-in_default : goal.returns-in_default
returns-in_default c A B x fa fb h p =
    let s = c.args in
    let i = c.in_default.is-0 in
    order_last A B x s.i s.j (omega (arith, i.0.0.1, i.0.1, i.1)) c.requires
