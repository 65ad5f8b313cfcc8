use mathlib.Core.Path.{refl, sym, ◌∙◌}
use native.Mathlib.Omega.{arith}
use lib.ListN.{length}
use Rattle.std.proofs.lemmas.Result.{err_from_is_err_and}
use Rattle.records.specs.Limits.{max_records}
use Rattle.records.specs.Records.{record_at}
use Rattle.geometry.specs.Limit.{coordinate_limit}
use Rattle.geometry.specs.Fitness.{FitFor}
use Rattle.geometry.specs.Trapezoids.{trapezoid_codec}
use Rattle.geometry.proofs.Layers.{all_record}
use Rattle.remainder_code.specs.Code.{leading, max_overlays}
use Rattle.remainder_code.proofs.Answers.{within_least}
use Rattle.remainder_code.proofs.Folding.{fold_stop}
use Rattle.remainder_code.proofs.Reducing.{reduce_start, reduce_none, reduce_few, reduce_turn}
use Rattle.remainder_code.proofs.Boxed.{left_enclosed}
use Rattle.difference_code.proofs.reduce_by_rest.Goals as goal

pub loop-i-init : goal.loop-i-init
loop-i-init c =
    let a = c.args in
    let h = c.requires in
    (reduce_start a.room a.layer.now a.out.now a.scratch.now a.n a.start h.remaining.0 h.boxed_layer.0.layer.fit h.boxed_layer.1 h.scratch_for, h.remaining.1)

pub more_overlays-requires : goal.more_overlays-requires
more_overlays-requires c =
    let f = c.reduce_at-f in
    let h = c.loop-i.invariant.0 in (
      omega (arith, h.few, h.folding.upto, c.requires.boxed_layer.0.layer.few),
      within_least max_records max_overlays f.result (omega arith) (reduce_few h c.requires.boxed_layer.2 _ f.result f.new.out f.ensures.minus_written),
    )

pub returns-in_err-left : goal.returns-in_err-left
returns-in_err-left c =
    let h = c.loop-i.invariant.0 in
    let f = c.reduce_at-f in
    let turn = reduce_turn h c.requires.boxed_layer.2 (record_at trapezoid_codec c.args.layer.now c.loop-i.i) f.result f.new.out f.ensures.minus_written c.loop-i-test.true refl f.new.scratch f.ensures.blank f.auto.scratch in
    let e = sym c.more_overlays.ensures ∙ c.in_err-left.was in
    let p = err_from_is_err_and c.from_residual.result c.from_residual.ensures.1 in
    rw (p.1, p.2) (record { minus_all_written = turn.full _ e; overlays_within = omega (arith, turn.full_few _ e, c.loop-i-test.true, c.requires.boxed_layer.0.layer.few); blank = f.ensures.blank })

pub loop-i-preserved : goal.loop-i-preserved
loop-i-preserved c =
    let a = c.args in
    let h = c.loop-i.invariant.0 in
    let f = c.reduce_at-f in
    let b = record_at trapezoid_codec a.layer.now c.loop-i.i in
    let turn = reduce_turn h c.requires.boxed_layer.2 b f.result f.new.out f.ensures.minus_written c.loop-i-test.true refl f.new.scratch f.ensures.blank f.auto.scratch in
    let e = sym c.more_overlays.ensures ∙ c.in_ok-left.was in (
      turn.keeps _ e,
      left_enclosed (length c.loop-i.out) a.room a.e (leading c.loop-i.out c.loop-i.left.trapezoids) b f.result f.new.out _ _ f.ensures.minus_written e h.remainder.fit
          (all_record (FitFor coordinate_limit) a.layer.now c.loop-i.i c.requires.boxed_layer.0.layer.fit c.loop-i-test.true) c.loop-i.invariant.1,
    )

pub returns-then-left-eq0 : goal.returns-then-left-eq0
returns-then-left-eq0 c =
    let h = c.loop-i.invariant.0 in
    record { minus_all_written = reduce_none h c.if-left-eq0.true; overlays_within = omega (arith, h.few, h.folding.upto, c.requires.boxed_layer.0.layer.few); blank = h.scratch_for.0 }

pub returns-after-loop-i : goal.returns-after-loop-i
returns-after-loop-i c =
    let h = c.loop-i.invariant.0 in
    record { minus_all_written = fold_stop h.folding c.loop-i-test.false _ refl; overlays_within = omega (arith, h.few, h.folding.upto, c.requires.boxed_layer.0.layer.few); blank = h.scratch_for.0 }
