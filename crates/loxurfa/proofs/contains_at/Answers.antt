use mathlib.Core.Path.{◌≡◌, sym, ◌∙◌}
use Rattle.calls.specs.Rows.{plate_limit, contains_checked}
use Rattle.calls.proofs.Bounds.{point_real}
use Rattle.calls.proofs.Checks.{ContainsReady, contains_ready, contains_refused, layer_of_lem, plate_carried}
use Rattle.geometry_code.specs.Code.{point_of}
use Rattle.rows_code.proofs.Bounds.{point_small}
use Rattle.rows_code.proofs.Cleared.{small_refused}
use Rattle.loxurfa.proofs.Outcomes.{contains_refuses, contains_yes, contains_no}
use Rattle.loxurfa.proofs.contains_at.Goals as goal
use Rattle.std.specs.Prelude.{Ok}

pub returns-in-Err : goal.returns-in-Err
returns-in-Err c =
    let s = c.args in
    let P = point_of s.x s.y s.d in
    let e = sym c.in-Err.ensures in
    record { result_value = contains_refuses plate_limit P s.a.now s.b.now s.code e; small = small_refused e (contains_refused plate_limit P s.a.now s.b.now s.code) }

pub lies_in_result-requires : goal.lies_in_result-requires
lies_in_result-requires c =
    let passed : contains_checked plate_limit (point_of c.args.x c.args.y c.args.d) c.args.a.now c.args.b.now c.args.code ≡ (Ok tt) = sym c.in_default.ensures in
    let ready : ContainsReady plate_limit (point_of c.args.x c.args.y c.args.d) c.args.a.now c.args.b.now c.args.code = contains_ready plate_limit _ _ _ _ passed in
    let s = c.args in
    let r = ready in
    (r.is_code_lem, layer_of_lem plate_limit s.a.now plate_carried r.first, layer_of_lem plate_limit s.b.now plate_carried r.second, point_small plate_limit plate_carried s.x s.y s.d r.point, point_real plate_limit _ r.point)

pub returns-then-lies_in_result : goal.returns-then-lies_in_result
returns-then-lies_in_result c =
    let passed : contains_checked plate_limit (point_of c.args.x c.args.y c.args.d) c.args.a.now c.args.b.now c.args.code ≡ (Ok tt) = sym c.in_default.ensures in
    let s = c.args in
    record { result_value = contains_yes plate_limit (point_of s.x s.y s.d) s.a.now s.b.now s.code (passed) (sym c.lies_in_result.ensures ∙ c.if-lies_in_result.true); small = tt }

pub returns-else-lies_in_result : goal.returns-else-lies_in_result
returns-else-lies_in_result c =
    let passed : contains_checked plate_limit (point_of c.args.x c.args.y c.args.d) c.args.a.now c.args.b.now c.args.code ≡ (Ok tt) = sym c.in_default.ensures in
    let s = c.args in
    record { result_value = contains_no plate_limit (point_of s.x s.y s.d) s.a.now s.b.now s.code (passed) (sym c.lies_in_result.ensures ∙ c.if-lies_in_result.false); small = tt }
