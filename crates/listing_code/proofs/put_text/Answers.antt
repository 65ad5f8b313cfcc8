use mathlib.Core.Path.{refl}
use Rattle.listing_code.proofs.Writing.{written_part}
use Rattle.listing_code.proofs.put_text.Goals as goal

pub returns : goal.returns
returns c = (refl, written_part c.args.out.now _ c.args.text.now c.args.at c.copy_from_slice.ensures.after)
