use mathlib.Core.Path.{◌≡◌, sym, ◌∙◌}
use lib.ListN.{length}
use Rattle.calls.specs.Rows.{plate_limit, equal_checked}
use Rattle.calls.proofs.Checks.{equal_ready, equal_refused, equal_buffers, layer_of_lem, plate_carried}
use Rattle.rows_code.proofs.Cleared.{small_refused}
use Rattle.loxurfa.proofs.Outcomes.{equal_refuses, equal_past}
use Rattle.loxurfa.proofs.equal.Goals as goal
use Rattle.std.specs.Prelude.{Ok}

pub returns-in-Err : goal.returns-in-Err
returns-in-Err c =
    let s = c.args in
    let e = sym c.in-Err.ensures in
    record { equal_kept = equal_refuses plate_limit s.a.now s.b.now s.out.now s.scratch.now e; small = small_refused e (equal_refused plate_limit s.a.now s.b.now (length s.out.now) (length s.scratch.now)) }

pub equal_searched-requires : goal.equal_searched-requires
equal_searched-requires c =
    let passed : let s = c.args in equal_checked plate_limit s.a.now s.b.now (length s.out.now) (length s.scratch.now) ≡ (Ok tt) = sym c.in_default.ensures in
    let s = c.args in
    let e = passed in
    let r = equal_ready plate_limit s.a.now s.b.now (length s.out.now) (length s.scratch.now) e in
    record { fit_layer = (layer_of_lem plate_limit s.a.now plate_carried r.first, layer_of_lem plate_limit s.b.now plate_carried r.second); scratch_value = equal_buffers plate_limit s.a.now s.b.now (length s.out.now) (length s.scratch.now) e }

pub returns : goal.returns
returns c =
    let passed : let s = c.args in equal_checked plate_limit s.a.now s.b.now (length s.out.now) (length s.scratch.now) ≡ (Ok tt) = sym c.in_default.ensures in
    let s = c.args in
    let f = c.equal_searched in
    record { equal_kept = f.ensures.equal_searched ∙ equal_past plate_limit s.a.now s.b.now s.out.now s.scratch.now (passed); small = f.ensures.small }
