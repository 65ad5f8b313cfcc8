use mathlib.Core.Path.{refl, sym, ◌∙◌, ap}
use mathlib.Core.List.{List}
use Prim.Native.Nat.{ℕ}
use native.Mathlib.Omega.{arith}
use lib.ListN.{replicate}
use lib.IntN.{pos}
use mir.Syntax.{w32}
use mir.Val.{to_z, of_z}
use mir.Facts.{to_z-of_z}
use borrow.Author.Rules.{sfits_of}
use Rattle.records.specs.Limits.{max_records}
use Rattle.geometry.specs.declared.Trapezoid.{Trapezoid}
use Rattle.geometry.specs.Trapezoids.{layer_of}
use Rattle.sources.proofs.Sourced.{shapes_of}
use Rattle.boolean.specs.Space.{intersection_stages}
use Rattle.boxes_code.proofs.Layers.{box_loaded}
use Rattle.remainder_code.proofs.Answers.{within_no_room, within_done}
use Rattle.remainder_code.proofs.Folding.{blank_start, fold_stop, fold_borrowed, fold_long}
use Rattle.intersection_code.proofs.Folds.{common_few, intersection_fold, intersection_steps, intersection_turn}
use Rattle.intersection_code.proofs.intersection_into.Goals as goal

pub loop-i-init : goal.loop-i-init
loop-i-init c =
    let a = c.args in
    let B = layer_of a.second.now in (
      blank_start (intersection_fold a.second.now) (intersection_steps a.second.now) a.room a.first.now a.out.now (intersection_stages 0 (layer_of a.first.now) B)
          (ap (λ (ts : List Trapezoid). intersection_stages 0 ts B) (sym (shapes_of a.first.now))) c.requires.2 c.requires.0.layer.fit,
      omega arith,
    )

pub common_into-requires : goal.common_into-requires
common_into-requires c =
    let a = c.args in
    let p = c.loop-i in
    let h = p.invariant.0 in
    (box_loaded a.first.now a.first_boxes.now c.requires.0 p.i c.loop-i-test.true c.placed_at-a.result c.load_box-e.result c.placed_at-a.ensures c.load_box-e.ensures, c.requires.1, fold_borrowed h _ (omega (arith, h.within)))

pub overflow_add-result : goal.overflow_add-result
overflow_add-result c =
    let f = c.common_into in
    let few = common_few c.placed_at-a.result.shape c.args.second.now c.requires.1.layer.few _ _ _ f.result f.new.out f.ensures in
    omega (arith, within_no_room max_records _ f.result c.in-Err.is few, c.loop-i.invariant.1, c.loop-i-test.true, c.requires.0.layer.few)

pub overflow_add-overlays : goal.overflow_add-overlays
overflow_add-overlays c =
    let f = c.common_into in
    let few = common_few c.placed_at-a.result.shape c.args.second.now c.requires.1.layer.few _ _ _ f.result f.new.out f.ensures in
    omega (arith, within_done max_records _ _ f.result c.in-Ok.is few, c.loop-i.invariant.1, c.loop-i-test.true, c.requires.0.layer.few)

pub returns-in-Err : goal.returns-in-Err
returns-in-Err c =
    let h = c.loop-i.invariant in
    let s = c.sources_at-sources in
    let f = c.common_into in
    let turn =
    intersection_turn c.args.second.now h.0 c.loop-i-test.true c.placed_at-a.result.shape c.placed_at-a.ensures.shape (to_z w32 (of_z w32 s.result)) (to_z-of_z {w = w32} (sfits_of s.type_inv) ∙ s.ensures) f.result f.new.out f.ensures in
    let few = common_few c.placed_at-a.result.shape c.args.second.now c.requires.1.layer.few _ _ _ f.result f.new.out f.ensures in
    let g = c.in-Err.is in
    let e = fold_long h.0 f.new.out f.auto.out in
    record {
      intersection_written = (turn.full _ g, c.fill.ensures.after (λ y h. h) ∙ ap (λ (n : ℕ). replicate n (pos 0)) e);
      overlays_within = omega (arith, within_no_room max_records _ f.result g few, h.1, c.loop-i-test.true, c.requires.0.layer.few);
    }

pub loop-i-preserved : goal.loop-i-preserved
loop-i-preserved c =
    let h = c.loop-i.invariant in
    let s = c.sources_at-sources in
    let f = c.common_into in
    let turn =
    intersection_turn c.args.second.now h.0 c.loop-i-test.true c.placed_at-a.result.shape c.placed_at-a.ensures.shape (to_z w32 (of_z w32 s.result)) (to_z-of_z {w = w32} (sfits_of s.type_inv) ∙ s.ensures) f.result f.new.out f.ensures in
    let few = common_few c.placed_at-a.result.shape c.args.second.now c.requires.1.layer.few _ _ _ f.result f.new.out f.ensures in
    let g = c.in-Ok.is in
    (turn.keeps _ _ g, omega (arith, within_done max_records _ _ f.result g few, h.1))

pub returns : goal.returns
returns c =
    let h = c.loop-i.invariant in
    record { intersection_written = fold_stop h.0 c.loop-i-test.false _ refl; overlays_within = omega (arith, h.1, h.0.upto, c.requires.0.layer.few) }
