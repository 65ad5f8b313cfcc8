use Rattle.polygon_edges_code.proofs.Slices.{edge_put}
use Rattle.polygon_edges_code.proofs.put_edge.Goals as goal

pub returns : goal.returns
returns c =
    edge_put c.args.terms.now c.args.n _ c.args.direction.v c.args.lines.now c.args.l c.requires.0 c.requires.1 c.requires.2 c.coefficients_of-k.ensures _ c.store_line.ensures c.put_number.ensures c.put_number-2.ensures c.put_number-3.ensures c.put_number-4.ensures
