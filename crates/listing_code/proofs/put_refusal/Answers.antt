use mathlib.Core.Path.{refl}
use mathlib.Core.List.{[], ◌∷◌, ◌++◌}
use Rattle.listing.specs.Listing.{refused_text, place_text, numbered, refusal_line}
use Rattle.listing_code.proofs.Texts.{begin, further, complete}
use Rattle.listing_code.proofs.put_refusal.Goals as goal

pub returns : goal.returns
returns c =
    let number = c.args.number in
    let place = c.args.place in
    let h = begin c.args.out.now c.args.at (refusal_line number place) c.requires in
    let k = further (numbered refused_text number) (numbered place_text place ++ (10 ∷ [])) h refl c.put_numbered-first.ensures in
    complete (further (numbered place_text place) (10 ∷ []) k refl c.put_numbered-second.ensures) c.put_text.ensures
