use mathlib.Core.Path.{refl, sym, ◌∙◌, ap}
use mathlib.Core.List.{List}
use Prim.Native.Nat.{ℕ}
use native.Mathlib.Omega.{arith}
use lib.ListN.{length, replicate}
use lib.IntN.{pos}
use mir.Syntax.{w32}
use mir.Val.{to_z, of_z}
use mir.Facts.{to_z-of_z}
use borrow.Author.Rules.{sfits_of}
use Rattle.records.proofs.Records.{length_from}
use Rattle.geometry.specs.Trapezoids.{layer_of}
use Rattle.geometry.specs.declared.Trapezoid.{Trapezoid}
use Rattle.sources.specs.Sourced.{sourced_codec}
use Rattle.sources.proofs.Sourced.{shapes_of}
use Rattle.boolean.specs.Space.{difference_stages}
use Rattle.boxes_code.proofs.Layers.{box_loaded}
use Rattle.remainder_code.specs.Code.{overlays_of_one}
use Rattle.bearing_code.specs.Code.{standing}
use Rattle.bearing_code.proofs.Bearing.{standing_filled}
use Rattle.remainder_code.proofs.Answers.{within_no_room, within_done}
use Rattle.remainder_code.proofs.Leading.{scratch_tail, scratch_back}
use Rattle.remainder_code.proofs.Folding.{fold_start, fold_words, fold_stop, fold_borrowed, fold_long}
use Rattle.difference_code.proofs.Folds.{difference_fold, difference_steps, difference_turn}
use Rattle.difference_code.proofs.difference_into.Goals as goal

pub loop-i-init : goal.loop-i-init
loop-i-init c =
    let a = c.args in
    let B = layer_of a.second.now in
    let d = a.out.now in
    let h = c.requires.holding.0 in (
      fold_start (difference_fold B) (difference_steps B) a.room a.first.now d (standing d a.start) (difference_stages a.start (layer_of a.first.now) B) a.start (standing_filled d a.start a.room h) h.wide
          (ap (λ (k : ℕ). difference_stages k (layer_of a.first.now) B) (sym (length_from sourced_codec a.start d 0)) ∙ ap (λ (ts : List Trapezoid). difference_stages (length (standing d a.start)) ts B) (sym (shapes_of a.first.now))) c.requires.boxed_layer.0.layer.fit,
      omega arith,
      c.requires.scratch_for,
    )

pub one_bearing-f-requires : goal.one_bearing-f-requires
one_bearing-f-requires c =
    let a = c.args in
    let p = c.loop-i in
    let h = p.invariant in
    record { boxed_as = (box_loaded a.first.now a.first_boxes.now c.requires.boxed_layer.0 p.i c.loop-i-test.true c.placed_at-a.result c.load_box-e.result c.placed_at-a.ensures c.load_box-e.ensures, c.requires.boxed_layer.1, fold_borrowed h.0 _ (omega (arith, h.0.within)), omega (arith, c.requires.holding.1)); scratch_for = scratch_tail p.out p.scratch p.k h.2 }

pub returns-in-Err : goal.returns-in-Err
returns-in-Err c =
    let p = c.loop-i in
    let h = p.invariant in
    let s = c.sources_at-sources in
    let f = c.one_bearing-f in
    let turn =
    difference_turn (layer_of c.args.second.now) h.0 c.loop-i-test.true c.placed_at-a.result.shape c.placed_at-a.ensures.shape (to_z w32 (of_z w32 s.result)) (to_z-of_z {w = w32} (sfits_of s.type_inv) ∙ s.ensures)
    f.result f.new.out f.ensures.one_bearing in
    let scratched = scratch_back p.out p.scratch p.k h.2 (fold_words h.0) f.new.out f.new.scratch f.auto.out f.auto.scratch f.ensures.blank in
    let g = c.in-Err.is in
    let u = within_no_room overlays_of_one _ f.result g f.ensures.overlays_within in
    let e = fold_long h.0 f.new.out f.auto.out in
    record {
      difference_added = (turn.full _ g, c.fill.ensures.after (λ y h. h) ∙ ap (λ (n : ℕ). replicate n (pos 0)) e);
      overlays_within = omega (arith, u, h.1, c.loop-i-test.true, c.requires.boxed_layer.0.layer.few);
      blank = scratched.0;
    }

pub loop-i-preserved : goal.loop-i-preserved
loop-i-preserved c =
    let p = c.loop-i in
    let h = p.invariant in
    let s = c.sources_at-sources in
    let f = c.one_bearing-f in
    let turn =
    difference_turn (layer_of c.args.second.now) h.0 c.loop-i-test.true c.placed_at-a.result.shape c.placed_at-a.ensures.shape (to_z w32 (of_z w32 s.result)) (to_z-of_z {w = w32} (sfits_of s.type_inv) ∙ s.ensures)
    f.result f.new.out f.ensures.one_bearing in
    let g = c.in-Ok.is in
    let u = within_done overlays_of_one _ _ f.result g f.ensures.overlays_within in
    (turn.keeps _ _ g, omega (arith, u, h.1), scratch_back p.out p.scratch p.k h.2 (fold_words h.0) f.new.out f.new.scratch f.auto.out f.auto.scratch f.ensures.blank)

pub returns : goal.returns
returns c =
    let h = c.loop-i.invariant in
    record { difference_added = fold_stop h.0 c.loop-i-test.false _ refl; overlays_within = omega (arith, h.1, h.0.upto, c.requires.boxed_layer.0.layer.few); blank = h.2.0 }
