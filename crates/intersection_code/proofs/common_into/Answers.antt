use mathlib.Core.Path.{sym, ◌∙◌, ap}
use Prim.Native.Nat.{ℕ}
use native.Mathlib.Omega.{arith}
use lib.ListN.{replicate}
use lib.IntN.{pos}
use mir.Syntax.{w32}
use mir.Val.{to_z, of_z}
use mir.Facts.{to_z-of_z}
use borrow.Author.Rules.{sfits_of}
use Rattle.geometry.specs.Trapezoids.{layer_of}
use Rattle.sources.proofs.Sourced.{shapes_of}
use Rattle.boolean.specs.Space.{common_stages}
use Rattle.boxes_code.proofs.Layers.{apart_at_lem}
use Rattle.remainder_code.specs.Code.{once}
use Rattle.remainder_code.proofs.Folding.{blank_start, fold_stop, fold_long}
use Rattle.intersection_code.proofs.Folds.{owned, common_fold, common_steps, common_passed, common_turn}
use Rattle.intersection_code.proofs.common_into.Goals as goal
use Rattle.intersection_code.proofs.common_into.Goals.{then-not-boxes_disjoint+in-Some, else-not-boxes_disjoint}

pub loop-i-init : goal.loop-i-init
loop-i-init c =
    let a = c.args in
    let u = owned a.a.shape (to_z w32 (of_z w32 a.sources)) in
    let ms = common_stages 0 a.a.shape (layer_of a.layer.now) in
    blank_start (common_fold u) (common_steps u) a.room a.layer.now a.out.now ms (ap (common_stages 0 a.a.shape) (sym (shapes_of a.layer.now))) c.requires.2 c.requires.1.layer.fit

pub returns-in_default : goal.returns-in_default
returns-in_default c =
    let h = c.loop-i.invariant in
    let f = c.common_parts in
    let turn =
    common_turn (owned c.args.a.shape (to_z w32 (of_z w32 c.args.sources))) h c.loop-i-test.true c.placed_at-b.result.shape c.placed_at-b.ensures.shape
    _ (to_z-of_z {w = w32} (sfits_of c.sources_at-of_b.type_inv) ∙ c.sources_at-of_b.ensures) _ (to_z-of_z {w = w32} (sfits_of c.joined-both.type_inv) ∙ c.joined-both.ensures) f.result f.new.out f.ensures in
    let e = fold_long h f.new.out f.auto.out in
    (turn.full 1 (ap once c.in_default.is), c.fill.ensures.after (λ y h. h) ∙ ap (λ (n : ℕ). replicate n (pos 0)) e)

pub loop-i-preserved : goal.loop-i-preserved
loop-i-preserved c =
    let a = c.args in
    let u = owned a.a.shape (to_z w32 (of_z w32 a.sources)) in
    let h = c.loop-i.invariant in
    let l = c.loop-i-test.true in
    elim c.if-not-boxes_disjoint.branch [
      | then-not-boxes_disjoint+in-Some w ↦
          let f = w.common_parts in
          let turn =
          common_turn u h l w.placed_at-b.result.shape w.placed_at-b.ensures.shape
          _ (to_z-of_z {w = w32} (sfits_of w.sources_at-of_b.type_inv) ∙ w.sources_at-of_b.ensures) _ (to_z-of_z {w = w32} (sfits_of w.joined-both.type_inv) ∙ w.joined-both.ensures) f.result f.new.out f.ensures in
          rw (w.out-is, w.k-is) (turn.keeps _ 1 (ap once w.in-Some.is))
      | else-not-boxes_disjoint w ↦
          rw (w.out-is, w.k-is)
          (common_passed u h l (apart_at_lem a.layer.now a.boxes.now c.requires.1 c.loop-i.i l a.a a.e c.requires.0 (sym c.boxes_disjoint.ensures ∙ w.if-not-boxes_disjoint.false)))
    ]

pub returns : goal.returns
returns c =
    let h = c.loop-i.invariant in
    rw (← to_z-of_z {w = w32} c.ranges.sources) (fold_stop h c.loop-i-test.false _ (omega (arith, h.upto, c.loop-i-test.false)))
