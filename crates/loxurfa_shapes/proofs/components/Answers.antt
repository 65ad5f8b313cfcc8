use mathlib.Core.Path.{◌≡◌, sym, ◌∙◌}
use native.Mathlib.Omega.{arith}
use lib.ListN.{length}
use Rattle.records.specs.Records.{count}
use Rattle.geometry.specs.Fitness.{FitLayer}
use Rattle.geometry.specs.Trapezoids.{trapezoid_codec, layer_of}
use Rattle.calls.specs.Rows.{plate_limit}
use Rattle.calls.specs.Components.{components_checked}
use Rattle.calls.proofs.Checks.{fit_carried, plate_carried}
use Rattle.calls.proofs.Components.{passed_fit, passed_one_each, passed_few, passed_outcome, refused_small, refused_outcome}
use Rattle.loxurfa_shapes.proofs.components.Goals as goal
use Rattle.std.specs.Prelude.{Ok}

pub returns-in-Err : goal.returns-in-Err
returns-in-Err c =
    let s = c.args in
    let e = sym c.in-Err.ensures in
    record { components_kept = refused_outcome plate_limit s.a.now s.numbers.now e; small = refused_small plate_limit s.a.now (length s.numbers.now) e }

pub components_with-requires : goal.components_with-requires
components_with-requires c =
    let passed : components_checked plate_limit c.args.a.now (length c.args.numbers.now) ≡ (Ok tt) = sym c.in_default.ensures in
    let layer : let s = c.args in FitLayer s.a.now = let s = c.args in
    let e = passed in
    record { fit = fit_carried plate_limit plate_carried (layer_of s.a.now) (passed_fit plate_limit s.a.now s.numbers.now e); few = omega (arith, passed_one_each plate_limit s.a.now s.numbers.now e, passed_few plate_limit s.a.now s.numbers.now e) } in
    let one_each : let s = c.args in length s.numbers.now ≡ count trapezoid_codec s.a.now = let s = c.args in
    passed_one_each plate_limit s.a.now s.numbers.now (passed) in
    (record { layer = layer; room = omega (arith, one_each, c.if-numbers-le-FEW.true) }, one_each)

pub returns-then-numbers-le-FEW : goal.returns-then-numbers-le-FEW
returns-then-numbers-le-FEW c =
    let passed : components_checked plate_limit c.args.a.now (length c.args.numbers.now) ≡ (Ok tt) = sym c.in_default.ensures in
    let s = c.args in
    let f = c.components_with in
    record { components_kept = f.ensures.components_searched ∙ passed_outcome plate_limit s.a.now s.numbers.now (passed); small = f.ensures.small }

pub components_with-requires-2 : goal.components_with-requires-2
components_with-requires-2 c =
    let passed : components_checked plate_limit c.args.a.now (length c.args.numbers.now) ≡ (Ok tt) = sym c.in_default.ensures in
    let layer : let s = c.args in FitLayer s.a.now = let s = c.args in
    let e = passed in
    record { fit = fit_carried plate_limit plate_carried (layer_of s.a.now) (passed_fit plate_limit s.a.now s.numbers.now e); few = omega (arith, passed_one_each plate_limit s.a.now s.numbers.now e, passed_few plate_limit s.a.now s.numbers.now e) } in
    let one_each : let s = c.args in length s.numbers.now ≡ count trapezoid_codec s.a.now = let s = c.args in
    passed_one_each plate_limit s.a.now s.numbers.now (passed) in
    let l = layer in
    (record { layer = l; room = omega (arith, l.few) }, one_each)

pub returns : goal.returns
returns c =
    let passed : components_checked plate_limit c.args.a.now (length c.args.numbers.now) ≡ (Ok tt) = sym c.in_default.ensures in
    let s = c.args in
    let f = c.components_with-2 in
    record { components_kept = f.ensures.components_searched ∙ passed_outcome plate_limit s.a.now s.numbers.now (passed); small = f.ensures.small }
