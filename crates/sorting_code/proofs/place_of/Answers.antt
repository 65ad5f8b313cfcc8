use native.Mathlib.Omega.{arith}
use Rattle.sorting_code.proofs.Entries.{place_small, place_before, place_level, place_next, place_end}
use Rattle.sorting_code.proofs.place_of.Goals as goal

pub compare-requires : goal.compare-requires
compare-requires c = (c.requires.1.comparable, (place_small c.args.n c.args.num.now c.args.den.now c.args.p c.requires.0 _ c.loop-i.invariant c.loop-i-test.true _ c.get_number.ensures c.get_number-in-loop-i.ensures).comparable)

pub returns-in-Left : goal.returns-in-Left
returns-in-Left c = place_before c.args.n c.args.num.now c.args.den.now c.args.p c.requires.0 _ c.loop-i.invariant c.loop-i-test.true _ c.get_number.ensures c.get_number-in-loop-i.ensures c.requires.1 _ c.compare.ensures c.in-Left.is

pub returns-in-Level : goal.returns-in-Level
returns-in-Level c = place_level c.args.n c.args.num.now c.args.den.now c.args.p c.requires.0 _ c.loop-i.invariant c.loop-i-test.true _ c.get_number.ensures c.get_number-in-loop-i.ensures c.requires.1 _ c.compare.ensures c.in-Level.is

pub loop-i-preserved : goal.loop-i-preserved
loop-i-preserved c = place_next c.args.n c.args.num.now c.args.den.now c.args.p c.requires.0 _ c.loop-i.invariant c.loop-i-test.true _ c.get_number.ensures c.get_number-in-loop-i.ensures c.requires.1 _ c.compare.ensures c.in-Right.is

pub returns : goal.returns
returns c = place_end c.args.n c.args.num.now c.args.den.now c.args.p c.requires.0 _ c.loop-i.invariant (omega arith)
