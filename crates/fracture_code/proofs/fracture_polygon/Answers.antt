use mathlib.Core.Path.{refl}
use lib.ListN.{length}
use Rattle.geometry_code.specs.Polygons.{polygon_of}
use Rattle.fracture_code.proofs.Sweeping.{edges_lines, whole_filled}
use Rattle.fracture_code.proofs.fracture_polygon.Goals as goal

pub fill_events-requires : goal.fill_events-requires
fill_events-requires c =
    let edges = c.edges_into-edges.ensures in
    (edges.held, edges_lines c.args.limit (polygon_of c.args.words.now) edges, c.requires.1, (c.add_events-n.ensures c.args.limit c.requires.0).listed, refl, refl, c.requires.4)

pub returns : goal.returns
returns c =
    let f = c.fill_events in
    whole_filled c.args.limit (polygon_of c.args.words.now) c.edges_into-edges.ensures _ _ _ _ (c.add_events-n.ensures c.args.limit c.requires.0) (length c.args.out.now) c.args.room f.result f.new.out f.ensures
