use Prim.Native.Nat.{◌+◌, ◌-◌}
use native.Mathlib.Omega.{arith}
use Rattle.listing.specs.Listing.{record_line, lines_from}
use Rattle.listing_code.proofs.Texts.{onward, arrived, next_line, lines_end}
use Rattle.listing_code.proofs.put_lines.Goals as goal

pub loop-i-preserved : goal.loop-i-preserved
loop-i-preserved c =
    let s = c.args.words.now in
    let n = c.args.n in
    let h = c.loop-i.invariant in
    let i = c.loop-i.i in
    let e = next_line s n i c.loop-i-test.true in
    (onward (record_line s i) (lines_from (n - (i + 1)) s (i + 1)) h.0 e (omega (arith, c.loop-i-test.true, h.1, h.0.long, c.requires.1, c.put_line-next.ensures.wrote.0, c.put_line-next.ensures.within)) c.put_line-next.ensures.wrote, omega (arith, h.1, c.put_line-next.ensures.within))

pub returns : goal.returns
returns c =
    arrived c.loop-i.invariant.0 (lines_end c.args.words.now c.args.n c.loop-i.i c.loop-i-test.false)
