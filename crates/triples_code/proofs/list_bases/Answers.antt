use native.Mathlib.Omega.{arith}
use Rattle.triples_code.specs.Code.{base_triples}
use Rattle.triples_code.proofs.Listing.{listing_start, listing_holds, listing_turn, listing_pass, listing_full, listing_stop, base_yes, base_no}
use Rattle.triples_code.proofs.list_bases.Goals as goal
use Rattle.triples_code.proofs.list_bases.Goals.{then-mark-c+in_ok-m, else-mark-c}

pub loop-b-init : goal.loop-b-init
loop-b-init c = listing_start _ _ c.requires.0

pub list_emitters-requires : goal.list_emitters-requires
list_emitters-requires c =
    let h = c.requires in
    (listing_holds c.loop-b.invariant, h.1, omega (arith, c.loop-b-test.true, h.2), h.3)

pub returns-in_err-m : goal.returns-in_err-m
unfolding base_triples
returns-in_err-m c =
    let a = c.args in
    rw c.from_residual.ensures (listing_full c.loop-b.invariant (base_yes a.base_marks.now a.emitter_marks.now a.c c.loop-b.b c.if-mark-c.true) c.loop-b-test.true c.in_err-m.ensures)

pub loop-b-preserved : goal.loop-b-preserved
loop-b-preserved c =
    let a = c.args in
    let h = c.loop-b.invariant in
    let l = c.loop-b-test.true in
    elim c.if-mark-c.branch [
      | then-mark-c+in_ok-m w ↦ listing_turn h (base_yes a.base_marks.now a.emitter_marks.now a.c c.loop-b.b w.if-mark-c.true) l w.m-is w.list-is w.in_ok-m.ensures w.list_emitters.auto.list
      | else-mark-c w ↦ listing_pass h (base_no a.base_marks.now a.emitter_marks.now a.c c.loop-b.b w.if-mark-c.false) l w.m-is w.list-is
    ]

pub returns : goal.returns
unfolding base_triples
returns c = listing_stop c.loop-b.invariant c.loop-b-test.false
