use Rattle.polygon_edges_code.specs.Edges.{line_number}
use Rattle.polygon_edges_code.proofs.line_at.Goals as goal

pub returns : goal.returns
returns c = unfold line_number in c.load_line.ensures
