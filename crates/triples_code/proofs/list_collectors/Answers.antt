use mathlib.Core.Path.{refl}
use native.Mathlib.Omega.{arith}
use Rattle.triples_code.specs.Code.{marked_triples}
use Rattle.triples_code.proofs.Listing.{holds-blank, listing_start, listing_holds, listing_turn, listing_full, listing_stop}
use Rattle.triples_code.proofs.list_collectors.Goals as goal

pub loop-c-init : goal.loop-c-init
loop-c-init c = listing_start _ _ (holds-blank _ c.requires.0)

pub list_bases-requires : goal.list_bases-requires
list_bases-requires c =
    let h = c.requires in
    (listing_holds c.loop-c.invariant, omega (arith, c.loop-c-test.true, h.1), h.2, h.3)

pub returns-in_err-m : goal.returns-in_err-m
unfolding marked_triples
returns-in_err-m c = rw c.from_residual.ensures (listing_full c.loop-c.invariant refl c.loop-c-test.true c.in_err-m.ensures)

pub loop-c-preserved : goal.loop-c-preserved
loop-c-preserved c = listing_turn c.loop-c.invariant refl c.loop-c-test.true refl refl c.in_ok-m.ensures c.list_bases.auto.list

pub returns : goal.returns
unfolding marked_triples
returns c = listing_stop c.loop-c.invariant c.loop-c-test.false
