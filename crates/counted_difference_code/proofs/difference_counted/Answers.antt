use lib.ListN.{length}
use lib.IntN.{pos}
use Rattle.std.proofs.lemmas.Result.{err_from_is_err_and}
use Rattle.records.proofs.Buffer.{blank_of}
use Rattle.geometry.specs.Trapezoids.{layer_of}
use Rattle.boolean.specs.Folds.{folded}
use Rattle.remainder_code.specs.Code.{overlays_of_layer}
use Rattle.remainder_code.proofs.Answers.{within_done}
use Rattle.bearing_code.proofs.Bearing.{holding_none, sourced_none, sourced_known}
use Rattle.counted_difference_code.proofs.Counted.{folded_counted, left_cleared}
use Rattle.counted_difference_code.proofs.difference_counted.Goals as goal

pub difference_into-requires : goal.difference_into-requires
difference_into-requires c =
    let a = c.args in
    record { boxed_layer = c.requires.boxed_layer; holding = (holding_none a.out.now a.room c.requires.borrowed.0, c.requires.borrowed.1); scratch_for = c.requires.scratch_for }

pub returns-in_err-f : goal.returns-in_err-f
returns-in_err-f c =
    let p = err_from_is_err_and c.from_residual.result c.from_residual.ensures.1 in
    let e = c.in_err-f.ensures in
    rw (p.1, p.2) (record { difference_counted = e.difference_added.0; overlays_within = e.overlays_within; blank = (blank_of (pos 0) _ _ e.difference_added.1, e.blank) })

pub returns : goal.returns
returns c =
    let a = c.args in
    let d = c.difference_into in
    let all = sourced_none a.out.now a.room c.requires.borrowed.0 _ _ d.result d.new.out d.ensures.difference_added in
    let made = sourced_known _ _ _ _ _ (folded _ _) _ c.in_ok-f.was all in
    record {
      difference_counted = folded_counted (length a.out.now) a.room a.first.now (layer_of a.second.now) (folded _ _) d.new.out made;
      overlays_within = within_done overlays_of_layer _ _ d.result c.in_ok-f.was d.ensures.overlays_within;
      blank = (left_cleared _ _ _ _ _ _ _ made d.auto.out c.requires.borrowed.0.wide c.fill.new.self (c.fill.ensures.after (λ y h. h)), d.ensures.blank);
    }
