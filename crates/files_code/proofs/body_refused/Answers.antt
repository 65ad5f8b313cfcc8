use mathlib.Core.Path.{◌≡◌, sym, ◌∙◌, ap}
use Prim.Native.Nat.{ℕ}
use native.Mathlib.Omega.{arith}
use native.Mathlib.Nat.{zero-add}
use Rattle.geometry.specs.Fitness.{verdict, first_refusal}
use Rattle.fitness_code.proofs.Checking.{fit, refused, passed}
use Rattle.files_code.proofs.Bodies.{layer_is, count_is, at_is}
use Rattle.files_code.proofs.body_refused.Goals as goal
use Rattle.std.specs.Prelude.{Ok}
use Rattle.geometry.specs.Refusals.{refused_by}

pub returns-in-Err : goal.returns-in-Err
returns-in-Err c =
    let bs = c.args.body.now in
    let l = c.loop-i-test.true in
    ap (λ (m : ℕ). refused_by c.in-Err.number m) (sym (zero-add c.loop-i.i))
    ∙ refused c.loop-i.invariant (omega (arith, l, count_is bs)) (ap (verdict _) (at_is bs c.loop-i.i l ∙ sym c.load_file_trapezoid.ensures) ∙ sym c.in-Err.ensures)
    ∙ ap (first_refusal _ 0) (layer_is bs)

pub loop-i-preserved : goal.loop-i-preserved
loop-i-preserved c =
    let bs = c.args.body.now in
    let l = c.loop-i-test.true in
    fit c.loop-i.invariant (omega (arith, l, count_is bs)) (ap (verdict _) (at_is bs c.loop-i.i l ∙ sym c.load_file_trapezoid.ensures) ∙ sym c.in_default.ensures)

pub returns : goal.returns
returns c =
    let bs = c.args.body.now in
    passed c.loop-i.invariant (omega (arith, c.loop-i-test.false, count_is bs)) ∙ ap (first_refusal _ 0) (layer_is bs)
