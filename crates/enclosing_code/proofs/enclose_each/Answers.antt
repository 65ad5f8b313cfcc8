use mathlib.Core.Path.{refl}
use native.Mathlib.Omega.{arith}
use Rattle.records.specs.Records.{count}
use Rattle.records.proofs.Records.{length_from}
use Rattle.geometry.specs.Trapezoids.{trapezoid_codec, layer_of}
use Rattle.enclosure_code.proofs.Answers.{some_of}
use Rattle.enclosing_code.proofs.Rows.{group_at_lem, start_next, try_start, try_turn, try_full}
use Rattle.enclosing_code.proofs.enclose_each.Goals as goal

pub loop-j-init : goal.loop-j-init
loop-j-init c = let h = c.requires in record { tried = try_start _ _ _ _ _; begins = refl; blank = (h.borrowed.0.blank, h.scratch_for.0) }

pub returns-in_err-made-clause-enclosed_as : goal.returns-in_err-made-clause-enclosed_as
returns-in_err-made-clause-enclosed_as c =
    let v = c.loop-j.invariant in
    let l = c.loop-j-test.true in
    rw c.from_residual.ensures (try_full v.tried _ (group_at_lem _ _ _ _ v.begins) (omega (arith, l, c.requires.groups.1)) _ l c.in_err-made.ensures.enclosed_as)

pub loop-j-preserved : goal.loop-j-preserved
loop-j-preserved c =
    let v = c.loop-j.invariant in
    let q = c.in_ok-made in
    let s = c.args.shape.now in
    let some = some_of (layer_of s) (omega (arith, c.requires.boxed_layer.1, length_from trapezoid_codec (count trapezoid_codec s) s 0)) in
    record {
      tried = try_turn v.tried _ (group_at_lem _ _ _ _ v.begins) (omega (arith, c.loop-j-test.true, c.requires.groups.1)) some _ _ q.ensures.enclosed_as q.ensures.enclosed_within q.ensures.marking;
      begins = start_next c.args.ends.now c.loop-j.j;
      blank = q.ensures.blank;
    }
