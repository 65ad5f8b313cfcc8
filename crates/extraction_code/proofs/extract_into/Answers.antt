use mathlib.Core.Path.{ap}
use native.Mathlib.Omega.{arith}
use lib.ListN.{length}
use Rattle.extraction_code.proofs.Ways.{layer_triples, layer_triples_few}
use Rattle.extraction_code.proofs.extract_into.Goals as goal

pub returns-clause-listed_within : goal.returns-clause-listed_within
returns-clause-listed_within c =
    let h = c.requires.boxed_layer in
    let t = c.in_ok-overlays.ensures.both_tried in
    let same = layer_triples _ _ _ _ _ t.1 t.2 in
    (omega (arith, c.in_ok-triples.ensures.0, ap length same, layer_triples_few _ _ _ h.0.layer h.1.layer h.2.layer), c.in_ok-overlays.ensures.both_within)
