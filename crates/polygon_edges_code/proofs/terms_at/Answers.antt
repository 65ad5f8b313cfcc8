use Rattle.polygon_edges_code.specs.Edges.{terms_number}
use Rattle.polygon_edges_code.proofs.Slices.{same_terms}
use Rattle.polygon_edges_code.proofs.terms_at.Goals as goal

pub returns : goal.returns
returns c = unfold terms_number in same_terms c.get_number.ensures c.get_number-2.ensures c.get_number-3.ensures
