use native.Mathlib.Omega.{arith}
use Rattle.columns_code.proofs.SideOrder.{less_turned, itself_not_less}
use Rattle.columns_code.proofs.is_front.Goals as goal

pub returns-then-j-i : goal.returns-then-j-i
returns-then-j-i c A B x fa fb h =
    let s = c.args in
    less_turned A B x fa fb s.i s.j c.if-j-i.true (c.front_up-then-j-i.ensures A B x fa fb h)

pub returns-else-j-i : goal.returns-else-j-i
returns-else-j-i c A B x fa fb h =
    let s = c.args in
    itself_not_less A B x fa fb s.i s.j (omega (arith, c.if-i-j.false, c.if-j-i.false))
