use mathlib.Core.Path.{◌≡◌, sym, ◌∙◌}
use mathlib.Core.List.{[]}
use lib.ListN.{length}
use lib.IntN.{pos}
use Rattle.records.proofs.Buffer.{blank_of}
use Rattle.geometry.specs.Trapezoids.{layer_of}
use Rattle.sources.specs.Sourced.{sourced_of}
use Rattle.boolean.specs.Sources.{sourced_deoverlapped}
use Rattle.boolean.specs.Space.{deoverlapped_stages}
use Rattle.calls.specs.Rows.{plate_limit, deoverlap_checked}
use Rattle.calls.specs.Outcomes.{zeros, room_of}
use Rattle.calls.proofs.Checks.{DeoverlapReady, deoverlap_ready, deoverlap_refused, layer_of_lem, plate_carried}
use Rattle.rows_code.proofs.Cleared.{small_refused, cleared-length, cleared_borrowed, blank-zeros, no_room_small}
use Rattle.searched_code.proofs.Outcomes.{small_done}
use Rattle.loxurfa.proofs.Outcomes.{deoverlap_refuses, deoverlap_no_room, deoverlap_done}
use Rattle.loxurfa.proofs.deoverlap.Goals as goal
use Rattle.std.specs.Prelude.{Ok}

pub returns-in-Err : goal.returns-in-Err
returns-in-Err c =
    let s = c.args in
    let e = sym c.in-Err.ensures in
    record { deoverlap_kept = deoverlap_refuses plate_limit s.a.now s.out.now s.scratch.now e; small = small_refused e (deoverlap_refused plate_limit s.a.now (length s.out.now) (length s.scratch.now)) }

pub deoverlap_into-requires : goal.deoverlap_into-requires
deoverlap_into-requires c =
    let passed : deoverlap_checked plate_limit c.args.a.now (length c.args.out.now) (length c.args.scratch.now) ≡ (Ok tt) = sym c.in_default.ensures in
    let ready : DeoverlapReady plate_limit c.args.a.now (length c.args.out.now) (length c.args.scratch.now) = deoverlap_ready plate_limit _ _ _ passed in
    let s = c.args in
    let z = c.clear_both in
    let r = ready in
    let m = cleared-length z.new.out (length s.out.now) z.ensures.0 in
    let n = cleared-length z.new.scratch (length s.scratch.now) z.ensures.1 in
    record { fit_layer = layer_of_lem plate_limit s.a.now plate_carried r.layer; borrowed = (cleared_borrowed z.new.out (length s.out.now) z.ensures.0, r.buffers.few); scratch_for = (blank_of (pos 0) z.new.scratch (length s.scratch.now) z.ensures.1, n ∙ r.buffers.same ∙ sym m) }

pub returns-in-Err-deoverlap_into : goal.returns-in-Err-deoverlap_into
returns-in-Err-deoverlap_into c =
    let passed : deoverlap_checked plate_limit c.args.a.now (length c.args.out.now) (length c.args.scratch.now) ≡ (Ok tt) = sym c.in_default.ensures in
    let ready : DeoverlapReady plate_limit c.args.a.now (length c.args.out.now) (length c.args.scratch.now) = deoverlap_ready plate_limit _ _ _ passed in
    let blanked : c.deoverlap_into.new.scratch ≡ zeros (length c.args.out.now) = let s = c.args in
    let z = c.clear_both in
    blank-zeros c.deoverlap_into.new.scratch (length s.out.now) c.deoverlap_into.ensures.blank
    (c.deoverlap_into.auto.scratch ∙ cleared-length z.new.scratch (length s.scratch.now) z.ensures.1 ∙ (ready).buffers.same) in
    let s = c.args in
    let z = c.clear_both in
    let f = c.deoverlap_into in
    let m = cleared-length z.new.out (length s.out.now) z.ensures.0 in
    record { deoverlap_kept = deoverlap_no_room plate_limit s.a.now s.out.now s.scratch.now (passed) f.result (length z.new.out) f.new.out f.new.scratch f.ensures.deoverlapped_written m (blanked) c.in-Err-deoverlap_into.is; small = no_room_small }

pub returns-in-Ok : goal.returns-in-Ok
returns-in-Ok c =
    let passed : deoverlap_checked plate_limit c.args.a.now (length c.args.out.now) (length c.args.scratch.now) ≡ (Ok tt) = sym c.in_default.ensures in
    let ready : DeoverlapReady plate_limit c.args.a.now (length c.args.out.now) (length c.args.scratch.now) = deoverlap_ready plate_limit _ _ _ passed in
    let blanked : c.deoverlap_into.new.scratch ≡ zeros (length c.args.out.now) = let s = c.args in
    let z = c.clear_both in
    blank-zeros c.deoverlap_into.new.scratch (length s.out.now) c.deoverlap_into.ensures.blank
    (c.deoverlap_into.auto.scratch ∙ cleared-length z.new.scratch (length s.scratch.now) z.ensures.1 ∙ (ready).buffers.same) in
    let s = c.args in
    let z = c.clear_both in
    let f = c.deoverlap_into in
    let m = cleared-length z.new.out (length s.out.now) z.ensures.0 in
    let e = c.in-Ok.is in
    record { deoverlap_kept = deoverlap_done plate_limit s.a.now s.out.now s.scratch.now (passed) f.result (length z.new.out) f.new.out f.new.scratch f.ensures.deoverlapped_written m (blanked) e; small = small_done (room_of s.out.now) (sourced_deoverlapped (sourced_of s.a.now)) (deoverlapped_stages [] (layer_of s.a.now)) f.result (length s.out.now) (length z.new.out) f.new.out f.new.scratch f.ensures.deoverlapped_written m (blanked) (ready).buffers.few f.ensures.overlays_within e }
