use mathlib.Core.Path.{refl, sym, ◌∙◌, subst}
use Rattle.lists.specs.Lists.{All}
use Rattle.geometry.specs.declared.Trapezoid.{Trapezoid}
use Rattle.geometry.specs.Limit.{coordinate_limit, OnGrid}
use Rattle.geometry.specs.Fitness.{FitFor}
use Rattle.geometry.specs.Trapezoids.{lines_of, lies_in, lies_in_layer}
use Rattle.geometry.proofs.Layers.{all_record}
use Rattle.geometry_code.specs.Code.{point_of}
use Rattle.remainder_code.proofs.Walking.{walk_stop, search_found, search_turn}
use Rattle.point_code.proofs.lies_in.Goals as goal

pub contains-requires : goal.contains-requires
contains-requires c =
    let f = all_record (FitFor coordinate_limit) c.args.layer.now c.loop-i.i c.requires.0 c.loop-i-test.true in
    (subst (λ (t : Trapezoid). All (OnGrid coordinate_limit) (lines_of t)) (sym c.load-t.ensures) f.grid, c.requires.1)

pub returns-then-contains : goal.returns-then-contains
returns-then-contains c =
    let a = c.args in
    let P = point_of a.x a.y a.d in
    search_found (lies_in_layer P) (lies_in P) (λ t ts. refl) c.loop-i.invariant c.loop-i-test.true c.load-t.result c.load-t.ensures (sym c.contains.ensures ∙ c.if-contains.true)

pub loop-i-preserved : goal.loop-i-preserved
loop-i-preserved c =
    let a = c.args in
    let P = point_of a.x a.y a.d in
    search_turn (lies_in_layer P) (lies_in P) (λ t ts. refl) c.loop-i.invariant c.loop-i-test.true c.load-t.result c.load-t.ensures (sym c.contains.ensures ∙ c.if-contains.false)

pub returns : goal.returns
returns c = sym (walk_stop c.loop-i.invariant c.loop-i-test.false)
