use mathlib.Core.Path.{◌≡◌, sym, ◌∙◌, ap}
use mathlib.Core.Bool.{true}
use Prim.Native.Nat.{◌*◌, ◌-◌}
use native.Mathlib.Omega.{arith}
use lib.ListN.{length, get_or}
use lib.IntN.{pos}
use borrow.Rule.Slice.PartMut.{put_mid, same_len_mid}
use Rattle.integer.specs.Fraction.{Fraction}
use Rattle.records.specs.Limits.{memory_width}
use Rattle.records.proofs.Buffer.{blank_of}
use Rattle.geometry_code.specs.Code.{fraction_of, PositionOf}
use Rattle.trapezoids_code.proofs.Writing.{write_borrowed}
use Rattle.overlay.specs.Overlay.{in_range}
use Rattle.overlay_events_code.specs.Events.{named}
use Rattle.columns_code.specs.Code.{OrdersAt, ColumnAt}
use Rattle.columns_code.proofs.SideOrder.{small_meetings, orders_exact}
use Rattle.overlay_code.proofs.Filling.{column_four, event_at, orders_moved, fill_start, fill_stop, fill_ranged, fill_full, fill_turn}
use Rattle.overlay_code.proofs.fill_columns.Goals as goal

pub loop-i-init : goal.loop-i-init
loop-i-init c = fill_start _ _ _ _ _ _ _ _ _ c.requires.pair.4 c.requires.ranged

pub in_range-in_b-requires : goal.in_range-in_b-requires
in_range-in_b-requires c =
    let event : let s = c.args in PositionOf (named s.a.shape s.b.shape (get_or s.name.now c.loop-i.i 0)) (record { num = c.get_number.result; den = c.get_number-in-loop-i.result }) = event_at c.requires.pair.2 c.loop-i.i (omega (arith, c.loop-i-test.true)) c.get_number.result c.get_number-in-loop-i.result c.get_number.ensures c.get_number-in-loop-i.ensures in
    (c.requires.pair.0.second, (event).small)

pub orders_at-o-requires : goal.orders_at-o-requires
orders_at-o-requires c =
    let event : let s = c.args in PositionOf (named s.a.shape s.b.shape (get_or s.name.now c.loop-i.i 0)) (record { num = c.get_number.result; den = c.get_number-in-loop-i.result }) = event_at c.requires.pair.2 c.loop-i.i (omega (arith, c.loop-i-test.true)) c.get_number.result c.get_number-in-loop-i.result c.get_number.ensures c.get_number-in-loop-i.ensures in
    (small_meetings c.requires.pair.1, (event).small)

pub fill_column-requires : goal.fill_column-requires
fill_column-requires c =
    let event : let s = c.args in PositionOf (named s.a.shape s.b.shape (get_or s.name.now c.loop-i.i 0)) (record { num = c.get_number.result; den = c.get_number-in-loop-i.result }) = event_at c.requires.pair.2 c.loop-i.i (omega (arith, c.loop-i-test.true)) c.get_number.result c.get_number-in-loop-i.result c.get_number.ensures c.get_number-in-loop-i.ensures in
    let in_first : let s = c.args in true ≡ in_range (fraction_of (record { num = c.get_number.result; den = c.get_number-in-loop-i.result })) s.a.shape = let s = c.args in
    let pair = c.requires.pair.0 in
    sym (ap (λ (x : Fraction). in_range x s.a.shape) event.is ∙ fill_ranged pair.first.fit pair.second.fit c.requires.pair.3 c.requires.pair.2 c.loop-i.invariant (omega (arith, c.loop-i-test.true))) in
    let orders : let s = c.args in OrdersAt s.a.shape s.b.shape (fraction_of (record { num = c.get_number.result; den = c.get_number-in-loop-i.result })) true c.in_range-in_b.result c.orders_at-o.result = let pair = c.requires.pair.0 in
    orders_exact pair.first.fit pair.second.fit c.requires.pair.1 c.orders_at-o.ensures (event).small.proper (in_first) c.in_range-in_b.ensures in
    let column : let s = c.args in ColumnAt s.a.shape s.b.shape (fraction_of (record { num = c.get_number.result; den = c.get_number-in-loop-i.result })) c.column_at-c.result = let pair = c.requires.pair.0 in
    c.column_at-c.ensures _ _ _ pair.first.fit pair.second.fit (orders) (in_first) c.in_range-in_b.ensures in
    let pair = c.requires.pair.0 in
    let h = c.loop-i.invariant in
    let col = column in (
      orders_moved (event).is (in_first ∙ sym col.in_a_is) (c.in_range-in_b.ensures ∙ sym col.in_b_is) (orders),
      (column_four pair.first.fit pair.second.fit _ _ col).long,
      write_borrowed h.writing,
    )

pub returns-in_default : goal.returns-in_default
returns-in_default c =
    let event : let s = c.args in PositionOf (named s.a.shape s.b.shape (get_or s.name.now c.loop-i.i 0)) (record { num = c.get_number.result; den = c.get_number-in-loop-i.result }) = event_at c.requires.pair.2 c.loop-i.i (omega (arith, c.loop-i-test.true)) c.get_number.result c.get_number-in-loop-i.result c.get_number.ensures c.get_number-in-loop-i.ensures in
    let in_first : let s = c.args in true ≡ in_range (fraction_of (record { num = c.get_number.result; den = c.get_number-in-loop-i.result })) s.a.shape = let s = c.args in
    let pair = c.requires.pair.0 in
    sym (ap (λ (x : Fraction). in_range x s.a.shape) event.is ∙ fill_ranged pair.first.fit pair.second.fit c.requires.pair.3 c.requires.pair.2 c.loop-i.invariant (omega (arith, c.loop-i-test.true))) in
    let orders : let s = c.args in OrdersAt s.a.shape s.b.shape (fraction_of (record { num = c.get_number.result; den = c.get_number-in-loop-i.result })) true c.in_range-in_b.result c.orders_at-o.result = let pair = c.requires.pair.0 in
    orders_exact pair.first.fit pair.second.fit c.requires.pair.1 c.orders_at-o.ensures (event).small.proper (in_first) c.in_range-in_b.ensures in
    let column : let s = c.args in ColumnAt s.a.shape s.b.shape (fraction_of (record { num = c.get_number.result; den = c.get_number-in-loop-i.result })) c.column_at-c.result = let pair = c.requires.pair.0 in
    c.column_at-c.ensures _ _ _ pair.first.fit pair.second.fit (orders) (in_first) c.in_range-in_b.ensures in
    let pair = c.requires.pair.0 in
    let l = c.loop-i in
    let n : length c.fill.new.self ≡ length c.args.out.now = (let l = c.loop-i in
    let f = c.fill_column in
    c.fill.auto.self ∙ same_len_mid (memory_width * l.n) (length l.out - memory_width * l.n) l.out f.new.out f.auto.out ∙ l.invariant.writing.long) in
    let z = blank_of (pos 0) c.fill.new.self (length (put_mid (memory_width * l.n) (length l.out - memory_width * l.n) l.out c.fill_column.new.out)) (c.fill.ensures.after (λ y h. h)) in
    (fill_full pair.first.fit pair.second.fit c.requires.pair.3 c.requires.pair.2 l.invariant (omega (arith, c.loop-i-test.true)) (event) _ (column) _ _ c.fill_column.ensures c.in_default.is, rw (← n) z)

pub loop-i-preserved : goal.loop-i-preserved
loop-i-preserved c =
    let event : let s = c.args in PositionOf (named s.a.shape s.b.shape (get_or s.name.now c.loop-i.i 0)) (record { num = c.get_number.result; den = c.get_number-in-loop-i.result }) = event_at c.requires.pair.2 c.loop-i.i (omega (arith, c.loop-i-test.true)) c.get_number.result c.get_number-in-loop-i.result c.get_number.ensures c.get_number-in-loop-i.ensures in
    let in_first : let s = c.args in true ≡ in_range (fraction_of (record { num = c.get_number.result; den = c.get_number-in-loop-i.result })) s.a.shape = let s = c.args in
    let pair = c.requires.pair.0 in
    sym (ap (λ (x : Fraction). in_range x s.a.shape) event.is ∙ fill_ranged pair.first.fit pair.second.fit c.requires.pair.3 c.requires.pair.2 c.loop-i.invariant (omega (arith, c.loop-i-test.true))) in
    let orders : let s = c.args in OrdersAt s.a.shape s.b.shape (fraction_of (record { num = c.get_number.result; den = c.get_number-in-loop-i.result })) true c.in_range-in_b.result c.orders_at-o.result = let pair = c.requires.pair.0 in
    orders_exact pair.first.fit pair.second.fit c.requires.pair.1 c.orders_at-o.ensures (event).small.proper (in_first) c.in_range-in_b.ensures in
    let column : let s = c.args in ColumnAt s.a.shape s.b.shape (fraction_of (record { num = c.get_number.result; den = c.get_number-in-loop-i.result })) c.column_at-c.result = let pair = c.requires.pair.0 in
    c.column_at-c.ensures _ _ _ pair.first.fit pair.second.fit (orders) (in_first) c.in_range-in_b.ensures in
    let pair = c.requires.pair.0 in
    let l = c.loop-i in
    fill_turn pair.first.fit pair.second.fit c.requires.pair.3 c.requires.pair.2 l.invariant (omega (arith, c.loop-i-test.true)) (event) _ (column) _ _ c.fill_column.ensures _ c.in-Some.is

pub returns : goal.returns
returns c =
    let pair = c.requires.pair.0 in
    fill_stop pair.first.fit pair.second.fit c.requires.pair.3 c.requires.pair.2 c.loop-i.invariant (omega (arith, c.loop-i-test.false))
