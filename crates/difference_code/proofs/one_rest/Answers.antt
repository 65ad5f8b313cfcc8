use mathlib.Core.Path.{refl, sym, subst}
use Prim.Native.Nat.{◌+◌, ◌*◌, ◌-◌}
use native.Mathlib.Omega.{arith}
use lib.ListN.{length}
use Rattle.std.proofs.lemmas.Result.{err_from_is_err_and}
use Rattle.records.specs.Limits.{max_records}
use Rattle.records.specs.Records.{record_at}
use Rattle.geometry.specs.Limit.{coordinate_limit}
use Rattle.geometry.specs.Fitness.{FitFor}
use Rattle.geometry.specs.Trapezoids.{trapezoid_codec}
use Rattle.geometry.proofs.Layers.{all_record}
use Rattle.remainder_code.specs.Code.{max_overlays, OverlaysWithin}
use Rattle.remainder_code.proofs.Answers.{within_least, within_more, within_no_room, within_done}
use Rattle.remainder_code.proofs.Boxed.{first_enclosed}
use Rattle.remainder_code.proofs.One.{first_few, one_refused, one_remaining, one_folded}
use Rattle.difference_code.proofs.one_rest.Goals as goal

pub returns-in_err-first : goal.returns-in_err-first
returns-in_err-first c =
    let a = c.args in
    let h = c.requires in
    let b = record_at trapezoid_codec a.layer.now a.j in
    let p = err_from_is_err_and c.from_residual.result c.from_residual.ensures.1 in
    let e = c.in_err-first.was in
    let u = first_few (length a.out.now) a.room a.a.shape b a.layer.now a.j h.boxed_as.2 refl a.f a.out.now h.minus_written.0 in
    rw (p.1, p.2) (record {
      one_written = one_refused (length a.out.now) a.room a.a.shape b a.layer.now a.j h.boxed_as.2 refl a.f a.out.now h.minus_written.0 _ e;
      overlays_within = omega (arith, within_no_room 1 _ a.f e u);
      blank = h.scratch_for.0;
    })

pub reduce_by_rest-g-requires : goal.reduce_by_rest-g-requires
reduce_by_rest-g-requires c =
    let a = c.args in
    let h = c.requires in
    let b = record_at trapezoid_codec a.layer.now a.j in
    let fit = all_record (FitFor coordinate_limit) a.layer.now a.j h.boxed_as.1.layer.fit h.boxed_as.2 in
    let z = c.in_ok-first.was in
    record {
      boxed_layer = (h.boxed_as.1, omega (arith, h.boxed_as.2), h.boxed_as.3);
      remaining = (
        one_remaining (length a.out.now) a.room a.a.shape b a.layer.now a.j h.boxed_as.2 refl a.f a.out.now h.minus_written.0 _ _ z refl h.minus_written.1 h.boxed_as.0.placed.fit fit,
        first_enclosed (length a.out.now) a.room a.e a.a b a.f a.out.now _ _ h.minus_written.0 z h.boxed_as.0 fit,
      );
      scratch_for = h.scratch_for;
    }

pub more_overlays-requires : goal.more_overlays-requires
more_overlays-requires c =
    let q = c.reduce_by_rest-g in
    let a = c.args in
    let h = c.requires in
    let u = first_few (length a.out.now) a.room a.a.shape (record_at trapezoid_codec a.layer.now a.j) a.layer.now a.j h.boxed_as.2 refl a.f a.out.now h.minus_written.0 in
    (omega (arith, within_done 1 _ _ a.f c.in_ok-first.was u), within_least (max_records * (max_records - (a.j + 1))) max_overlays q.result (omega arith) q.ensures.overlays_within)

pub returns : goal.returns
returns c =
    let q = c.reduce_by_rest-g in
    let a = c.args in
    let h = c.requires in
    let b = record_at trapezoid_codec a.layer.now a.j in
    let z = c.in_ok-first.was in
    let u = first_few (length a.out.now) a.room a.a.shape b a.layer.now a.j h.boxed_as.2 refl a.f a.out.now h.minus_written.0 in
    let r = c.more_overlays.ensures in
    let g = one_folded (length a.out.now) a.room a.a.shape b a.layer.now a.j h.boxed_as.2 refl a.f a.out.now h.minus_written.0 _ _ z q.result q.new.out refl q.ensures.minus_all_written in
    let w = within_more (max_records * (max_records - (a.j + 1))) 1 _ q.result (within_done 1 _ _ a.f z u) q.ensures.overlays_within in
    record { one_written = rw r g; overlays_within = within_least (1 + max_records * (max_records - (a.j + 1))) (max_records * (max_records - a.j) + 1) c.more_overlays.result (omega arith) (subst (OverlaysWithin (1 + max_records * (max_records - (a.j + 1)))) (sym r) w); blank = q.ensures.blank }
