use mathlib.Core.Path.{◌≡◌, sym, ◌∙◌, ap}
use native.Mathlib.Omega.{arith}
use lib.ListN.{length}
use mir.Facts.{to_z-of_z}
use borrow.Author.Rules.{sfits_of}
use Rattle.calls.specs.Rows.{plate_limit, fracture_checked}
use Rattle.calls.specs.Outcomes.{zeros}
use Rattle.calls.proofs.Fracturing.{FractureReady, fracture_ready, fracture_refused}
use Rattle.calls.proofs.Checks.{plate_carried}
use Rattle.rows_code.proofs.Cleared.{small_refused, cleared-length, cleared_borrowed, no_room_small}
use Rattle.loxurfa_files.proofs.Fracturing.{fracture_refuses, fracture_no_room, fracture_done, fracture_small}
use mir.Syntax.{w32}
use Rattle.loxurfa_files.proofs.fracture_edition.Goals as goal
use Rattle.std.specs.Prelude.{Ok}

pub returns-in-Err : goal.returns-in-Err
returns-in-Err c =
    let s = c.args in
    let e = sym c.in-Err.ensures in
    record { fracture_kept = fracture_refuses s.edition plate_limit s.layer s.file.now s.out.now s.scratch.now e; small = small_refused e (fracture_refused s.edition plate_limit s.layer s.file.now (length s.out.now) (length s.scratch.now)) }

pub fracture_file-requires : goal.fracture_file-requires
fracture_file-requires c =
    let passed : fracture_checked c.args.edition plate_limit c.args.layer c.args.file.now (length c.args.out.now) (length c.args.scratch.now) ≡ (Ok tt) = sym c.in_default.ensures in
    let ready : FractureReady c.args.edition plate_limit c.args.layer c.args.file.now (length c.args.out.now) (length c.args.scratch.now) = fracture_ready c.args.edition plate_limit c.args.layer _ _ _ passed in
    let s = c.args in
    let z = c.clear_both in
    ((ready).rows, plate_carried, cleared_borrowed z.new.out (length s.out.now) z.ensures.0)

pub returns-in_default-fracture_file : goal.returns-in_default-fracture_file
returns-in_default-fracture_file c =
    let passed : fracture_checked c.args.edition plate_limit c.args.layer c.args.file.now (length c.args.out.now) (length c.args.scratch.now) ≡ (Ok tt) = sym c.in_default.ensures in
    let ready : FractureReady c.args.edition plate_limit c.args.layer c.args.file.now (length c.args.out.now) (length c.args.scratch.now) = fracture_ready c.args.edition plate_limit c.args.layer _ _ _ passed in
    let blanked : c.clear_both.new.scratch ≡ zeros (length c.args.out.now) = c.clear_both.ensures.1 ∙ ap zeros (ready).buffers.same in
    let s = c.args in
    let z = c.clear_both in
    let f = c.fracture_file in
    let m = cleared-length z.new.out (length s.out.now) z.ensures.0 in
    record { fracture_kept = fracture_no_room s.edition plate_limit s.layer s.file.now s.out.now s.scratch.now (passed) f.result (length z.new.out) f.new.out z.new.scratch f.ensures m (blanked) c.in_default-fracture_file.is; small = no_room_small }

pub single-requires : goal.single-requires
single-requires c =
    let passed : fracture_checked c.args.edition plate_limit c.args.layer c.args.file.now (length c.args.out.now) (length c.args.scratch.now) ≡ (Ok tt) = sym c.in_default.ensures in
    let ready : FractureReady c.args.edition plate_limit c.args.layer c.args.file.now (length c.args.out.now) (length c.args.scratch.now) = fracture_ready c.args.edition plate_limit c.args.layer _ _ _ passed in
    omega (arith, (ready).is_source)

pub returns : goal.returns
returns c =
    let passed : fracture_checked c.args.edition plate_limit c.args.layer c.args.file.now (length c.args.out.now) (length c.args.scratch.now) ≡ (Ok tt) = sym c.in_default.ensures in
    let ready : FractureReady c.args.edition plate_limit c.args.layer c.args.file.now (length c.args.out.now) (length c.args.scratch.now) = fracture_ready c.args.edition plate_limit c.args.layer _ _ _ passed in
    let blanked : c.clear_both.new.scratch ≡ zeros (length c.args.out.now) = c.clear_both.ensures.1 ∙ ap zeros (ready).buffers.same in
    let s = c.args in
    let z = c.clear_both in
    let f = c.fracture_file in
    let m = cleared-length z.new.out (length s.out.now) z.ensures.0 in
    let e = c.in-Some.is in
    record { fracture_kept = fracture_done s.edition plate_limit s.layer s.file.now s.out.now s.scratch.now (passed) f.result (length z.new.out) f.new.out z.new.scratch f.ensures m (blanked) e (to_z-of_z {w = w32} (sfits_of c.single.type_inv) ∙ c.single.ensures) c.set_sources.ensures; small = fracture_small s.edition plate_limit s.layer s.file.now s.out.now s.scratch.now (passed) f.result (length z.new.out) f.new.out z.new.scratch f.ensures m (blanked) (ready).buffers.few e }
