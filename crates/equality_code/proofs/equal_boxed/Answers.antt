use Rattle.geometry.specs.Trapezoids.{layer_of}
use Rattle.equality_code.proofs.Comparing.{compared_no_room}
use Rattle.equality_code.proofs.equal_boxed.Goals as goal

pub returns-in-Err-clause-compared_as : goal.returns-in-Err-clause-compared_as
returns-in-Err-clause-compared_as c =
    let a = c.args in
    compared_no_room a.room (layer_of a.first.now) (layer_of a.second.now) _ c.in-Err.ensures.difference_counted
