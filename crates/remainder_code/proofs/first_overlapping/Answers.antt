use mathlib.Core.Path.{refl, sym, ◌∙◌}
use native.Mathlib.Omega.{arith}
use Rattle.records.specs.Records.{record_at}
use Rattle.geometry.specs.Trapezoids.{trapezoid_codec}
use Rattle.overlay.specs.Overlaps.{overlaps}
use Rattle.boxes_code.proofs.Layers.{apart_at_lem}
use Rattle.remainder_code.proofs.Walking.{pass_stop, pass_found, pass_turn}
use Rattle.remainder_code.proofs.first_overlapping.Goals as goal
use Rattle.remainder_code.proofs.first_overlapping.Goals.{then-not-boxes_disjoint+else-overlapping, else-not-boxes_disjoint}

pub returns-then-overlapping : goal.returns-then-overlapping
returns-then-overlapping c =
    let p = c.placed_at-b in
    let o = sym c.overlapping.ensures ∙ c.if-overlapping.true in
    record {
      before = pass_found (overlaps c.args.a.shape) c.loop-i.invariant c.loop-i-test.true p.result.shape p.ensures.shape o;
      within = c.loop-i-test.true;
      placed = p.ensures;
      passes = o;
    }

pub loop-i-preserved : goal.loop-i-preserved
loop-i-preserved c =
    let a = c.args in
    let l = c.loop-i-test.true in
    let turn = pass_turn (overlaps a.a.shape) c.loop-i.invariant l in
    elim c.if-not-boxes_disjoint.branch [
      | then-not-boxes_disjoint+else-overlapping w ↦ turn w.placed_at-b.result.shape w.placed_at-b.ensures.shape (sym w.overlapping.ensures ∙ w.if-overlapping.false)
      | else-not-boxes_disjoint w ↦ turn (record_at trapezoid_codec a.layer.now c.loop-i.i) refl (apart_at_lem a.layer.now a.boxes.now c.requires.1 c.loop-i.i l a.a a.e c.requires.0 (sym c.boxes_disjoint.ensures ∙ w.if-not-boxes_disjoint.false))
    ]

pub returns : goal.returns
returns c =
    let h = c.loop-i.invariant in
    omega (arith, h.upto, pass_stop (overlaps c.args.a.shape) h c.loop-i-test.false)
