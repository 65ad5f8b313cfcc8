use native.Mathlib.Omega.{arith}
use Rattle.listing.specs.Listing.{refusal_line}
use Rattle.listing_code.proofs.Sizes.{refusal-length}
use Rattle.listing_code.proofs.Texts.{from_first}
use Rattle.listing_code.proofs.refuse_into.Goals as goal

pub put_refusal-requires : goal.put_refusal-requires
put_refusal-requires c =
    omega (arith, refusal-length c.args.number c.args.place c.ranges.number.fits c.ranges.place.fits, c.requires)

pub returns : goal.returns
returns c =
    let both = from_first c.args.out.now (refusal_line c.args.number c.args.place) c.put_refusal.ensures in
    record { value = both.0; out_after = both.1 }
