use Rattle.listing.specs.Listing.{decimal, numbered}
use Rattle.listing_code.proofs.Numbers.{same_decimal}
use Rattle.listing_code.proofs.Texts.{begin, room_of, further, room_last, complete, numbered_is}
use Rattle.listing_code.proofs.put_numbered.Goals as goal

pub put_text-next-requires : goal.put_text-next-requires
put_text-next-requires c =
    let h = begin c.args.out.now c.args.at (numbered c.args.text.now c.args.n) c.requires in
    room_of c.args.text.now (decimal c.args.n) h (numbered_is c.args.text.now c.args.n)

pub put_number-requires : goal.put_number-requires
put_number-requires c =
    let h = begin c.args.out.now c.args.at (numbered c.args.text.now c.args.n) c.requires in
    rw (same_decimal c.args.n c.ranges.n.fits) (room_last (further c.args.text.now (decimal c.args.n) h (numbered_is c.args.text.now c.args.n) c.put_text-next.ensures))

pub returns : goal.returns
returns c =
    let h = begin c.args.out.now c.args.at (numbered c.args.text.now c.args.n) c.requires in
    complete (further c.args.text.now (decimal c.args.n) h (numbered_is c.args.text.now c.args.n) c.put_text-next.ensures) (rw (same_decimal c.args.n c.ranges.n.fits) at c.put_number.ensures)
