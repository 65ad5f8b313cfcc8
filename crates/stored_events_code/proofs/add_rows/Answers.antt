use native.Mathlib.Omega.{arith}
use Rattle.stored_events_code.proofs.Crossings.{rows_start, rows_asks, rows_end}
use Rattle.stored_events_code.proofs.add_rows.Goals as goal

pub loop-i-init : goal.loop-i-init
loop-i-init c = rows_start _ _ _ c.requires.0 c.requires.1

pub add_row-n-requires : goal.add_row-n-requires
add_row-n-requires c = rows_asks c.loop-i.invariant c.loop-i-test.true

pub returns : goal.returns
returns c = rows_end c.loop-i.invariant (omega (arith, c.loop-i-test.false))
