use mathlib.Core.Path.{◌≡◌, sym, ◌∙◌}
use lib.ListN.{length}
use Rattle.calls.specs.Rows.{plate_limit}
use Rattle.calls.specs.Transistors.{transistors_checked}
use Rattle.calls.proofs.Checks.{layer_of_lem, plate_carried}
use Rattle.calls.proofs.Transistors.{transistors_ready, transistors_buffers, transistors_refused, transistors_refuses, transistors_past}
use Rattle.rows_code.proofs.Cleared.{small_refused}
use Rattle.loxurfa_shapes.proofs.transistors.Goals as goal
use Rattle.std.specs.Prelude.{Ok}

pub returns-in-Err : goal.returns-in-Err
returns-in-Err c =
    let s = c.args in
    let e = sym c.in-Err.ensures in
    record { transistors_kept = transistors_refuses s.collectors.now s.bases.now s.emitters.now s.list.now s.out.now s.scratch.now plate_limit e; small = small_refused e (transistors_refused plate_limit s.collectors.now s.bases.now s.emitters.now (length s.out.now) (length s.scratch.now)) }

pub transistors_into-requires : goal.transistors_into-requires
transistors_into-requires c =
    let passed : let s = c.args in transistors_checked plate_limit s.collectors.now s.bases.now s.emitters.now (length s.out.now) (length s.scratch.now) ≡ (Ok tt) = sym c.in_default.ensures in
    let s = c.args in
    let e = passed in
    let r = transistors_ready plate_limit s.collectors.now s.bases.now s.emitters.now (length s.out.now) (length s.scratch.now) e in
    record { fit_layer = (layer_of_lem plate_limit s.collectors.now plate_carried r.collectors, layer_of_lem plate_limit s.bases.now plate_carried r.bases, layer_of_lem plate_limit s.emitters.now plate_carried r.emitters); scratch_value = transistors_buffers plate_limit s.collectors.now s.bases.now s.emitters.now (length s.out.now) (length s.scratch.now) e }

pub returns : goal.returns
returns c =
    let passed : let s = c.args in transistors_checked plate_limit s.collectors.now s.bases.now s.emitters.now (length s.out.now) (length s.scratch.now) ≡ (Ok tt) = sym c.in_default.ensures in
    let s = c.args in
    let f = c.transistors_into in
    record { transistors_kept = f.ensures.transistors_searched ∙ transistors_past s.collectors.now s.bases.now s.emitters.now s.list.now s.out.now s.scratch.now plate_limit (passed); small = f.ensures.small }
