use mathlib.Core.Path.{sym, ◌∙◌, subst}
use Prim.Native.Nat.{ℕ, ◌+◌}
use native.Mathlib.Omega.{arith}
use lib.ListN.{length}
use Rattle.std.proofs.lemmas.Result.{err_from_is_err_and}
use Rattle.geometry.specs.Trapezoids.{layer_of}
use Rattle.boolean.specs.Operations.{symmetric_difference}
use Rattle.boolean.specs.Space.{difference_stages}
use Rattle.boolean.specs.Folds.{folded, no_room_after}
use Rattle.remainder_code.specs.Code.{overlays_of_layer, max_overlays, with_overlays, OverlaysWithin}
use Rattle.remainder_code.proofs.Answers.{within_least, within_done, within_more}
use Rattle.bearing_code.proofs.Bearing.{holding_none, sourced_none, sourced_known}
use Rattle.boolean_code.proofs.Combining.{holding_done, folded_after, minus_of, symmetric_counted, symmetric_no_room, result_folded}
use Rattle.boolean_code.proofs.symmetric_difference_into.Goals as goal

pub difference_into-requires : goal.difference_into-requires
difference_into-requires c =
    let a = c.args in
    record { boxed_layer = c.requires.boxed_layer; holding = (holding_none a.out.now a.room c.requires.borrowed.0, c.requires.borrowed.1); scratch_for = c.requires.scratch_for }

pub returns-in_err-f : goal.returns-in_err-f
returns-in_err-f c =
    let a = c.args in
    let p = err_from_is_err_and c.from_residual.result c.from_residual.ensures.1 in
    let e = c.in_err-f.ensures in
    rw (p.1, p.2) (record {
      result_written = result_folded symmetric_difference (length a.out.now) a.room a.first.now a.second.now (no_room_after _) c.difference_into.new.out
          (symmetric_no_room a.room a.first.now a.second.now (length a.out.now) c.difference_into.new.out _ e.difference_added);
      overlays_within = omega (arith, e.overlays_within);
      blank = e.blank;
    })

pub difference_into-g-requires : goal.difference_into-g-requires
difference_into-g-requires c =
    let a = c.args in
    let A = layer_of a.first.now in
    let B = layer_of a.second.now in
    let d = c.difference_into in
    let t = d.new.out in
    let g = sourced_none a.out.now a.room c.requires.borrowed.0 (minus_of a.first.now a.second.now) (difference_stages 0 A B) d.result t d.ensures.difference_added in
    let e = c.in_ok-f.was in
    let k = sourced_known (length a.out.now) a.room (minus_of a.first.now a.second.now) (difference_stages 0 A B) d.result (folded _ _) t e g in
    record { boxed_layer = (c.requires.boxed_layer.1, c.requires.boxed_layer.0); holding = (holding_done (length a.out.now) a.room (minus_of a.first.now a.second.now) (difference_stages 0 A B) _ _ t k d.auto.out c.requires.borrowed.0.wide, c.requires.borrowed.1); scratch_for = (d.ensures.blank, d.auto.scratch ∙ c.requires.scratch_for.1 ∙ sym d.auto.out) }

pub returns : goal.returns
returns c =
    let a = c.args in
    let A = layer_of a.first.now in
    let B = layer_of a.second.now in
    let d = c.difference_into in
    let t = d.new.out in
    let g = sourced_none a.out.now a.room c.requires.borrowed.0 (minus_of a.first.now a.second.now) (difference_stages 0 A B) d.result t d.ensures.difference_added in
    let e = c.in_ok-f.was in
    let q = c.difference_into-g in
    let k = sourced_known (length a.out.now) a.room (minus_of a.first.now a.second.now) (difference_stages 0 A B) d.result (folded _ _) t e g in
    let u = within_done overlays_of_layer _ _ d.result e d.ensures.overlays_within in
    let r = c.more_overlays.ensures in
    let h = folded_after (length a.out.now) a.room (minus_of a.first.now a.second.now) (difference_stages 0 A B) _ _ t k d.auto.out c.requires.borrowed.0.wide (minus_of a.second.now a.first.now) (λ (n : ℕ). difference_stages n B A) q.result q.new.out q.ensures.difference_added in
    let s = result_folded symmetric_difference (length a.out.now) a.room a.first.now a.second.now (with_overlays _ q.result) q.new.out
    (symmetric_counted (length a.out.now) a.room a.first.now a.second.now (with_overlays _ q.result) q.new.out h) in
    let w = within_more overlays_of_layer overlays_of_layer _ q.result u q.ensures.overlays_within in
    record { result_written = rw r s; overlays_within = within_least (overlays_of_layer + overlays_of_layer) max_overlays c.more_overlays.result (omega arith) (subst (OverlaysWithin (overlays_of_layer + overlays_of_layer)) (sym r) w); blank = q.ensures.blank }
