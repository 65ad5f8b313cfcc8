use mathlib.Core.Path.{sym, ◌∙◌}
use native.Mathlib.Omega.{arith}
use Rattle.geometry.specs.Trapezoids.{layer_of}
use Rattle.overlay.proofs.Search.{small_overlap}
use Rattle.boxes_code.proofs.BoxedLayers.{layer_boxed}
use Rattle.calls.proofs.Components.{searched_refused}
use Rattle.disjoint_code.proofs.Rows.{layer_few}
use Rattle.rows_code.proofs.Cleared.{small_refused}
use Rattle.loxurfa_shapes.proofs.components_boxed.Goals as goal

pub returns-in-Err : goal.returns-in-Err
returns-in-Err c =
    let s = c.args in
    let e = sym c.in-Err.ensures in
    record { components_searched = searched_refused s.a.words.now s.numbers.now e; small = small_refused e (small_overlap 0 (layer_of s.a.words.now) (omega (arith, layer_few (layer_boxed s.a)))) }

pub components_boxed-n-requires : goal.components_boxed-n-requires
components_boxed-n-requires c = (layer_boxed c.args.a, c.requires)
