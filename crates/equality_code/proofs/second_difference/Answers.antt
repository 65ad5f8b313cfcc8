use mathlib.Core.Path.{◌≡◌}
use native.Mathlib.Omega.{arith}
use Rattle.geometry.specs.Trapezoids.{layer_of}
use Rattle.equality_code.proofs.Comparing.{both_no_room, both_same, both_second}
use Rattle.equality_code.proofs.second_difference.Goals as goal

pub returns-in-Err-clause-compared_as : goal.returns-in-Err-clause-compared_as
returns-in-Err-clause-compared_as c =
    let a = c.args in
    let h = c.requires.nothing_left in
    both_no_room a.room (layer_of a.first.now) (layer_of a.second.now) h.0 a.made h.1 _ c.in-Err.ensures.difference_counted

pub returns-in-Ok-clause-compared_as : goal.returns-in-Ok-clause-compared_as
returns-in-Ok-clause-compared_as c =
    let a = c.args in
    let h = c.requires.nothing_left in
    both_same a.room (layer_of a.first.now) (layer_of a.second.now) h.0 a.made h.1 _ _ c.if-f-eq0.true c.in-Ok.ensures.difference_counted

pub returns-in-Ok-2-clause-compared_as : goal.returns-in-Ok-2-clause-compared_as
returns-in-Ok-2-clause-compared_as c =
    let a = c.args in
    let h = c.requires.nothing_left in
    let e : c.in-Ok.f.trapezoids ≡ c.in-Ok-2.f.trapezoids = cc in
    both_second a.room (layer_of a.first.now) (layer_of a.second.now) h.0 a.made h.1 _ _ (omega (arith, e, c.if-f-eq0.false)) c.in-Ok-2.ensures.difference_counted
