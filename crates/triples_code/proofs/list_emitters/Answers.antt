use native.Mathlib.Omega.{arith}
use Rattle.triples_code.specs.Code.{emitter_triples}
use Rattle.triples_code.proofs.Listing.{listing_start, listing_holds, listing_turn, listing_pass, listing_full, listing_stop, emitter_yes, emitter_no}
use Rattle.triples_code.proofs.list_emitters.Goals as goal
use Rattle.triples_code.proofs.list_emitters.Goals.{then-mark-b+in_ok-m, else-mark-b}

pub loop-e-init : goal.loop-e-init
loop-e-init c = listing_start _ _ c.requires.0

pub put_triple-requires : goal.put_triple-requires
put_triple-requires c =
    let h = c.requires in
    (listing_holds c.loop-e.invariant, h.1, h.2, omega (arith, c.loop-e-test.true, h.3))

pub returns-in_err-m : goal.returns-in_err-m
unfolding emitter_triples
returns-in_err-m c =
    let a = c.args in
    rw c.from_residual.ensures (listing_full c.loop-e.invariant (emitter_yes a.emitter_marks.now a.c a.b c.loop-e.e c.if-mark-b.true) c.loop-e-test.true c.in_err-m.ensures)

pub loop-e-preserved : goal.loop-e-preserved
loop-e-preserved c =
    let a = c.args in
    let h = c.loop-e.invariant in
    let l = c.loop-e-test.true in
    elim c.if-mark-b.branch [
      | then-mark-b+in_ok-m w ↦ listing_turn h (emitter_yes a.emitter_marks.now a.c a.b c.loop-e.e w.if-mark-b.true) l w.m-is w.list-is w.in_ok-m.ensures w.put_triple.auto.list
      | else-mark-b w ↦ listing_pass h (emitter_no a.emitter_marks.now a.c a.b c.loop-e.e w.if-mark-b.false) l w.m-is w.list-is
    ]

pub returns : goal.returns
unfolding emitter_triples
returns c = listing_stop c.loop-e.invariant c.loop-e-test.false
