use native.Mathlib.Omega.{arith}
use Rattle.columns_code.proofs.SideOrder.{four_numbers, column_exact}
use Rattle.columns_code.proofs.column_at.Goals as goal

pub exchange-e-requires : goal.exchange-e-requires
exchange-e-requires c =
    (four_numbers c.requires, omega arith, omega arith)

pub returns : goal.returns
returns c A B x ha hb o ea eb =
    let s = c.args in
    let f = c.fronts_of-w.ensures A B x o in
    column_exact ha hb x (record { order = s.c.order; in_a = s.in_a; in_b = s.in_b }) c.exchange-e.result c.exchange-f.result c.exchange-g.result c.exchange-h.result c.exchange.result
    c.requires ea eb (c.exchange-e.ensures.1 A B x _ _ f) (c.exchange-f.ensures.1 A B x _ _ f) (c.exchange-g.ensures.1 A B x _ _ f) (c.exchange-h.ensures.1 A B x _ _ f) (c.exchange.ensures.1 A B x _ _ f)
