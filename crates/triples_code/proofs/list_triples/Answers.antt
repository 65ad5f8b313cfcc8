use Rattle.triples_code.proofs.Listing.{filled_all}
use Rattle.triples_code.proofs.list_triples.Goals as goal

pub returns-else-is_none : goal.returns-else-is_none
returns-else-is_none c =
    let f = c.list_collectors-listed in
    filled_all _ _ f.result f.new.list c.if-is_none.ensures f.ensures
