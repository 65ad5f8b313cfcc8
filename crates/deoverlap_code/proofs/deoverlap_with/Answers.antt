use mathlib.Core.Path.{refl, ◌∙◌, ap}
use Prim.Native.Nat.{ℕ}
use native.Mathlib.Omega.{arith}
use lib.ListN.{replicate}
use lib.IntN.{pos}
use mir.Syntax.{w32}
use mir.Val.{to_z, of_z}
use mir.Facts.{to_z-of_z}
use borrow.Author.Rules.{sfits_of}
use Rattle.trapezoids_code.proofs.Placed.{placed_own}
use Rattle.remainder_code.proofs.Folding.{fold_stop}
use Rattle.deoverlap_code.proofs.Past.{front_layer}
use Rattle.deoverlap_code.proofs.DeoverlapLoop.{deoverlap_start, deoverlap_few, deoverlap_past, deoverlap_turn, boxes_start, boxes_more}
use Rattle.deoverlap_code.proofs.deoverlap_with.Goals as goal

pub loop-i-init : goal.loop-i-init
loop-i-init c =
    let a = c.args in
    let h = c.requires in
    (deoverlap_start a.room a.layer.now a.out.now a.scratch.now h.borrowed.0 h.fit_layer.0.fit h.scratch_for, boxes_start a.out.now a.boxes.now, refl)

pub one_bearing_by_front-f-requires : goal.one_bearing_by_front-f-requires
one_bearing_by_front-f-requires c =
    let h = c.loop-i.invariant in
    let small = c.requires.borrowed.1 in
    let past = deoverlap_past h.0 in
    let layer = front_layer c.loop-i.out c.loop-i.k c.args.room past h.0.fit small in
    record { boxed_as = (record { placed = placed_own c.placed_at-a.ensures; box = c.box_of-e.ensures }, record { layer = layer; boxes = h.1 }, past, small); scratch_for = h.0.scratch_for }

pub returns-in-Err : goal.returns-in-Err
returns-in-Err c =
    let h = c.loop-i.invariant in
    let s = c.sources_at-sources in
    let f = c.one_bearing_by_front-f in
    let turn =
    deoverlap_turn h.0 c.loop-i-test.true c.placed_at-a.result.shape c.placed_at-a.ensures.shape (to_z w32 (of_z w32 s.result)) (to_z-of_z {w = w32} (sfits_of s.type_inv) ∙ s.ensures)
    f.result f.new.out f.new.scratch f.ensures.one_bearing f.ensures.overlays_within f.ensures.first_unchanged f.ensures.blank f.auto.scratch in
    let e = c.in-Err.is in
    let z = c.fill.ensures.after (λ y h. h) ∙ ap (λ (n : ℕ). replicate n (pos 0)) (f.auto.out ∙ h.0.folding.long) in
    record { deoverlapped_written = (turn.full _ e, z); overlays_within = omega (arith, turn.full_few _ e, c.loop-i-test.true, c.requires.fit_layer.0.few); blank = f.ensures.blank }

pub extend_boxes-requires : goal.extend_boxes-requires
extend_boxes-requires c =
    let h = c.loop-i.invariant in
    let s = c.sources_at-sources in
    let f = c.one_bearing_by_front-f in
    let turn =
    deoverlap_turn h.0 c.loop-i-test.true c.placed_at-a.result.shape c.placed_at-a.ensures.shape (to_z w32 (of_z w32 s.result)) (to_z-of_z {w = w32} (sfits_of s.type_inv) ∙ s.ensures)
    f.result f.new.out f.new.scratch f.ensures.one_bearing f.ensures.overlays_within f.ensures.first_unchanged f.ensures.blank f.auto.scratch in
    let k = turn.keeps _ _ c.in-Ok.is in
    boxes_more c.loop-i.out f.new.out c.loop-i.boxes c.loop-i.k _ c.args.room (deoverlap_past h.0) (deoverlap_past k) k.fit f.ensures.first_unchanged (omega (arith, h.2, c.requires.fit_layer.1)) h.1

pub loop-i-preserved : goal.loop-i-preserved
loop-i-preserved c =
    let h = c.loop-i.invariant in
    let s = c.sources_at-sources in
    let f = c.one_bearing_by_front-f in
    let turn =
    deoverlap_turn h.0 c.loop-i-test.true c.placed_at-a.result.shape c.placed_at-a.ensures.shape (to_z w32 (of_z w32 s.result)) (to_z-of_z {w = w32} (sfits_of s.type_inv) ∙ s.ensures)
    f.result f.new.out f.new.scratch f.ensures.one_bearing f.ensures.overlays_within f.ensures.first_unchanged f.ensures.blank f.auto.scratch in
    let b = c.extend_boxes.ensures in
    (turn.keeps _ _ c.in-Ok.is, b.boxes_of, b.boxes_len_unchanged ∙ h.2)

pub returns : goal.returns
returns c =
    let h = c.loop-i.invariant.0 in
    record { deoverlapped_written = fold_stop h.folding c.loop-i-test.false _ refl; overlays_within = deoverlap_few h c.requires.fit_layer.0.few; blank = h.scratch_for.0 }
