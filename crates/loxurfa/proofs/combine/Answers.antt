use mathlib.Core.Path.{◌≡◌, sym, ◌∙◌}
use lib.ListN.{length}
use Rattle.calls.specs.Rows.{plate_limit, combine_checked}
use Rattle.calls.proofs.Checks.{combine_ready, combine_refused, combine_buffers, layer_of_lem, plate_carried}
use Rattle.rows_code.proofs.Cleared.{small_refused}
use Rattle.loxurfa.proofs.Outcomes.{combine_refuses, combine_past}
use Rattle.loxurfa.proofs.combine.Goals as goal
use Rattle.std.specs.Prelude.{Ok}

pub returns-in-Err : goal.returns-in-Err
returns-in-Err c =
    let s = c.args in
    let e = sym c.in-Err.ensures in
    record { combine_kept = combine_refuses plate_limit s.code s.a.now s.b.now s.out.now s.scratch.now e; small = small_refused e (combine_refused plate_limit s.code s.a.now s.b.now (length s.out.now) (length s.scratch.now)) }

pub combine_searched-requires : goal.combine_searched-requires
combine_searched-requires c =
    let passed : let s = c.args in combine_checked plate_limit s.code s.a.now s.b.now (length s.out.now) (length s.scratch.now) ≡ (Ok tt) = sym c.in_default.ensures in
    let s = c.args in
    let e = passed in
    let r = combine_ready plate_limit s.code s.a.now s.b.now (length s.out.now) (length s.scratch.now) e in
    record { code_bound = (r.is_code_lem, layer_of_lem plate_limit s.a.now plate_carried r.first, layer_of_lem plate_limit s.b.now plate_carried r.second); scratch_value = combine_buffers plate_limit s.code s.a.now s.b.now (length s.out.now) (length s.scratch.now) e }

pub returns : goal.returns
returns c =
    let passed : let s = c.args in combine_checked plate_limit s.code s.a.now s.b.now (length s.out.now) (length s.scratch.now) ≡ (Ok tt) = sym c.in_default.ensures in
    let s = c.args in
    let f = c.combine_searched in
    record { combine_kept = f.ensures.combine_searched ∙ combine_past plate_limit s.code s.a.now s.b.now s.out.now s.scratch.now (passed); small = f.ensures.small }
