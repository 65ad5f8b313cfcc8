use Rattle.shapes_code.proofs.Loops.{gather_start, gather_stop, gather_skip, gather_add}
use Rattle.shapes_code.proofs.gather.Goals as goal
use Rattle.shapes_code.proofs.gather.Goals.{then-number-k, else-number-k}

pub loop-j-init : goal.loop-j-init
loop-j-init c = gather_start c.requires.0

pub loop-j-preserved : goal.loop-j-preserved
loop-j-preserved c =
    let h = c.loop-j.invariant in
    let l = c.loop-j-test.true in
    elim c.if-number-k.branch [
      | then-number-k w ↦ rw (w.grouped-is, w.m-is) (gather_add h l w.if-number-k.true w.load-t.result w.load-t.ensures w.store.new.s w.store.ensures)
      | else-number-k w ↦ rw (w.grouped-is, w.m-is) (gather_skip h l w.if-number-k.false)
    ]

pub returns : goal.returns
returns c = gather_stop c.loop-j.invariant c.loop-j-test.false
