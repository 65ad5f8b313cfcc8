use native.Mathlib.Omega.{arith}
use Rattle.listing.specs.Listing.{head_line, lines_from, listing}
use Rattle.listing_code.proofs.Sizes.{head_length}
use Rattle.listing_code.proofs.Texts.{set_out, onward, at_last, from_first, listing_is}
use Rattle.listing_code.proofs.list_into.Goals as goal

pub put_head-next-requires : goal.put_head-next-requires
put_head-next-requires c =
    omega (arith, head_length c.args.n c.requires.1, c.requires.2)

pub put_lines-requires : goal.put_lines-requires
put_lines-requires c =
    let n = c.args.n in
    let s = c.args.words.now in
    let l = head_length n c.requires.1 in
    let k = onward (head_line n) (lines_from n s 0) (set_out c.args.out.now 0 (listing n s)) (listing_is n s) (omega (arith, l, c.requires.2)) c.put_head-next.ensures in
    (c.requires.0, omega (arith, k.long, c.put_head-next.ensures.0, l, c.requires.1, c.requires.2))

pub returns : goal.returns
returns c =
    let n = c.args.n in
    let s = c.args.words.now in
    let l = head_length n c.requires.1 in
    let k = onward (head_line n) (lines_from n s 0) (set_out c.args.out.now 0 (listing n s)) (listing_is n s) (omega (arith, l, c.requires.2)) c.put_head-next.ensures in
    let both = from_first c.args.out.now (listing n s) (at_last k c.put_lines.ensures) in
    record { value = both.0; out_after = both.1 }
