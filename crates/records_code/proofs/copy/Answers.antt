use native.Mathlib.Omega.{arith}
use lib.IntN.{pos}
use mir.Facts.{to_z-of_z}
use borrow.Author.Rules.{sfits_of}
use Rattle.lists.proofs.Fill.{copy_turn}
use Rattle.records_code.proofs.copy.Goals as goal

pub loop-i-preserved : goal.loop-i-preserved
loop-i-preserved c = rw (to_z-of_z (sfits_of c.w-1.given)) (copy_turn (pos 0) c.loop-i.invariant (omega (arith, c.loop-i-test.true, c.loop-i.auto.dst)))
