use mathlib.Core.Logic.{inl, inr}
use native.Mathlib.Omega.{arith}
use Rattle.columns_code.proofs.SideOrder.{order_turned, order_same}
use Rattle.columns_code.proofs.order_of.Goals as goal

pub returns-then-i-j : goal.returns-then-i-j
returns-then-i-j c A B x fa fb h p = c.order_up.ensures A B x fa fb h (inr p)

pub returns-then-j-i : goal.returns-then-j-i
returns-then-j-i c A B x fa fb h p =
    let s = c.args in
    order_turned A B x s.i s.j c.reverse.ensures (c.order_up-then-j-i.ensures A B x fa fb h (inl p))

pub returns-else-j-i : goal.returns-else-j-i
returns-else-j-i c A B x fa fb h p =
    let s = c.args in
    order_same A B x s.i s.j (omega (arith, c.if-i-j.false, c.if-j-i.false))
