use mathlib.Core.Path.{◌∙◌}
use native.Mathlib.Omega.{arith}
use Rattle.geometry.specs.Limit.{coordinate_limit}
use Rattle.stored_events_code.proofs.Marks.{marking_start, marking_within, marking_stored, marking_room, marking_next, marking_end}
use Rattle.stored_events_code.proofs.add_events.Goals as goal

pub loop-k-init : goal.loop-k-init
loop-k-init c = λ L g. marking_start L c.args.words.now c.args.edges c.args.lines.now _ _ _ _ c.add_rows-n.ensures c.requires.1 c.requires.2 g

pub overflow_mul-k : goal.overflow_mul-k
overflow_mul-k c = let h = c.loop-k.invariant coordinate_limit c.requires.0 in omega (arith, h.high, h.few)

pub get-x-requires : goal.get-x-requires
get-x-requires c = let h = c.loop-k.invariant coordinate_limit c.requires.0 in omega (arith, h.high, h.few, c.loop-k-test.true)

pub whole_position-p-requires : goal.whole_position-p-requires
whole_position-p-requires c = let h = c.loop-k.invariant coordinate_limit c.requires.0 in marking_within coordinate_limit _ _ _ _ _ _ _ _ h c.loop-k-test.true _ c.get-x.ensures.v_value

pub add_entry-n-requires : goal.add_entry-n-requires
add_entry-n-requires c =
    let h = c.loop-k.invariant coordinate_limit c.requires.0 in
    let l = c.loop-k-test.true in
    (marking_stored coordinate_limit _ _ _ _ _ _ _ _ h l, c.whole_position-p.ensures.small, marking_room coordinate_limit _ _ _ _ _ _ _ _ h l)

pub loop-k-preserved : goal.loop-k-preserved
loop-k-preserved c =
    λ L g. let h = c.loop-k.invariant L g in
    let wide = h.events.listed.wide in
    let kept = c.add_entry-n.auto in
    marking_next L _ _ _ _ _ _ _ _ h c.loop-k-test.true _ c.get-x.ensures.v_value _ _ _ _ _ c.whole_position-p.ensures c.add_entry-n.ensures (record { nums = kept.num ∙ wide.nums; dens = kept.den ∙ wide.dens; names = kept.name ∙ wide.names })

pub returns : goal.returns
returns c = λ L g. marking_end L _ _ _ _ _ _ _ _ (c.loop-k.invariant L g) (omega (arith, c.loop-k-test.false))
