use mathlib.Core.Path.{ap}
use lib.ListN.{length}
use Rattle.boolean.specs.Operations.{code_at, a_minus_b, b_minus_a}
use Rattle.bearing_code.proofs.Bearing.{holding_none, sourced_none}
use Rattle.boolean_code.proofs.Combining.{result_folded, code_folded}
use Rattle.boolean_code.proofs.combine_boxed.Goals as goal

pub difference_into-requires-clause-holding : goal.difference_into-requires-clause-holding
difference_into-requires-clause-holding c =
    (holding_none c.args.out.now c.args.room c.requires.borrowed.0, c.requires.borrowed.1)

pub returns-in-2-clause-result_written : goal.returns-in-2-clause-result_written
returns-in-2-clause-result_written c =
    let a = c.args in
    let r = c.difference_into in
    let d = r.new.out in
    let g = result_folded a_minus_b (length a.out.now) a.room a.first.now a.second.now r.result d (sourced_none a.out.now a.room c.requires.borrowed.0 _ _ r.result d r.ensures.difference_added) in
    code_folded a.code a_minus_b (ap code_at c.in-2.is) (length a.out.now) a.room a.first.now a.second.now r.result d g

pub difference_into-requires-in-3-clause-holding : goal.difference_into-requires-in-3-clause-holding
difference_into-requires-in-3-clause-holding c =
    (holding_none c.args.out.now c.args.room c.requires.borrowed.0, c.requires.borrowed.1)

pub returns-in-3-clause-result_written : goal.returns-in-3-clause-result_written
returns-in-3-clause-result_written c =
    let a = c.args in
    let r = c.difference_into-in-3 in
    let d = r.new.out in
    let g = result_folded b_minus_a (length a.out.now) a.room a.first.now a.second.now r.result d (sourced_none a.out.now a.room c.requires.borrowed.0 _ _ r.result d r.ensures.difference_added) in
    code_folded a.code b_minus_a (ap code_at c.in-3.is) (length a.out.now) a.room a.first.now a.second.now r.result d g
