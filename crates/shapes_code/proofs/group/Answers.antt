use native.Mathlib.Omega.{arith}
use Rattle.shapes_code.proofs.Loops.{group_start, below_few}
use Rattle.shapes_code.proofs.group.Goals as goal

pub loop-k-init : goal.loop-k-init
loop-k-init c = let h = c.requires in group_start h.numbers_len.0 h.numbers_len.1 h.grouped_len.0 h.grouped_len.1

pub overflow_cast-end : goal.overflow_cast-end
overflow_cast-end c = omega (arith, below_few c.gather-n.ensures, c.requires.numbers_len.2)
