use native.Mathlib.Omega.{arith}
use Rattle.directory_code.proofs.Finding.{paired}
use Rattle.polygons_code.proofs.fracture_numbered.Goals as goal

pub load_polygon-requires : goal.load_polygon-requires
load_polygon-requires c =
    let e = c.polygon_extent-e.ensures in
    let p = e.bound in
    (paired c.args.file.now (omega arith) c.requires.0.0, omega (arith, e.offset_value.0, e.offset_value.1, p.small), omega (arith, e.offset_value.0, e.offset_value.1, p.inside), omega (arith, e.offset_value.1, p.most))
