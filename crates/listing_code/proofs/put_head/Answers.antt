use mathlib.Core.Path.{refl}
use mathlib.Core.List.{[], ◌∷◌}
use Rattle.listing.specs.Listing.{pieces_text, numbered, head_line}
use Rattle.listing_code.proofs.Texts.{begin, further, complete}
use Rattle.listing_code.proofs.put_head.Goals as goal

pub returns : goal.returns
returns c =
    let h = begin c.args.out.now c.args.at (head_line c.args.n) c.requires in
    complete (further (numbered pieces_text c.args.n) (10 ∷ []) h refl c.put_numbered-next.ensures) c.put_text.ensures
