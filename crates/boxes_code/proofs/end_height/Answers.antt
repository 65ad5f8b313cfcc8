use Rattle.boxes_code.proofs.Magnitudes.{sizes, near_by, product_fits, sum_fits, rise_fits}
use Rattle.boxes_code.proofs.end_height.Goals as goal

pub mul-requires : goal.mul-requires
mul-requires g c = product_fits (sizes c.requires.line.1 c.coefficients_of-k.ensures) (near_by c.if-less.x.v c.within.ensures c.if-within.true)

pub add-requires : goal.add-requires
add-requires g c = sum_fits (sizes c.requires.line.1 c.coefficients_of-k.ensures) (near_by c.if-less.x.v c.within.ensures c.if-within.true) c.mul.ensures.magnitude

pub round-requires : goal.round-requires
round-requires g c =
    let s = sizes c.requires.line.1 c.coefficients_of-k.ensures in
    c.requires.callable _ _ (rise_fits s (near_by c.if-less.x.v c.within.ensures c.if-within.true) c.mul.ensures.magnitude c.add.ensures.magnitude) s.rightward
