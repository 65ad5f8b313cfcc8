use mathlib.Core.Path.{◌∙◌}
use native.Mathlib.Omega.{arith}
use Rattle.stored_events_code.proofs.Crossings.{row_start, row_stored, row_room, row_turn, row_end}
use Rattle.stored_events_code.proofs.add_row.Goals as goal

pub loop-j-init : goal.loop-j-init
loop-j-init c = row_start c.requires.0 c.args.i c.args.n _ _ _ c.requires.1 c.requires.2

pub add_pair-k-requires : goal.add_pair-k-requires
add_pair-k-requires c =
    let h = c.loop-j.invariant in
    let l = c.loop-j-test.true in
    (rw c.line_at-d.ensures (h.held.grid _ (omega (arith, h.high, l))), rw c.line_at-e.ensures (h.held.grid _ (omega (arith, h.high, l))), row_stored h.held _ _ _ _ _ _ h l, row_room h.held _ _ _ _ _ _ h l)

pub loop-j-preserved : goal.loop-j-preserved
loop-j-preserved c =
    let h = c.loop-j.invariant in
    let w = (h.crossed 0).listed.wide in
    let kept = c.add_pair-k.auto in
    row_turn h.held _ _ _ _ _ _ h c.loop-j-test.true _ _ _ _ (record { nums = kept.num ∙ w.nums; dens = kept.den ∙ w.dens; names = kept.name ∙ w.names }) _ c.pair_name.ensures _ _ c.line_at-d.ensures c.line_at-e.ensures c.add_pair-k.ensures

pub returns : goal.returns
returns c = let h = c.loop-j.invariant in row_end h.held _ _ _ _ _ _ h (omega (arith, c.loop-j-test.false))
