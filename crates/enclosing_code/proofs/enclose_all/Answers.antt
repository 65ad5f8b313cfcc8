use mathlib.Core.Path.{refl, ◌∙◌, ap}
use Prim.Native.Nat.{ℕ}
use lib.ListN.{replicate}
use Rattle.enclosing_code.specs.Code.{unmarked}
use Rattle.enclosing_code.proofs.Rows.{group_at_lem, start_next, all_start, all_turn, all_full}
use Rattle.enclosing_code.proofs.enclose_all.Goals as goal

pub loop-i-init : goal.loop-i-init
loop-i-init c =
    let h = c.requires in
    let after = c.fill.ensures.after (λ y h. h) in
    record {
      tried = all_start _ _ _ _ _ _ (after ∙ ap (λ (k : ℕ). replicate k unmarked) h.second_groups.1);
      begins = refl;
      blank = (h.borrowed.0.blank, h.scratch_for.0);
    }

pub returns-in_err-made-clause-enclosed_as : goal.returns-in_err-made-clause-enclosed_as
returns-in_err-made-clause-enclosed_as c =
    let v = c.loop-i.invariant in
    rw c.from_residual.ensures (all_full v.tried _ (group_at_lem _ _ _ _ v.begins) c.loop-i-test.true c.in_err-made.ensures.enclosed_as)

pub loop-i-preserved : goal.loop-i-preserved
loop-i-preserved c =
    let v = c.loop-i.invariant in
    let q = c.in_ok-made in
    record {
      tried = all_turn v.tried _ (group_at_lem _ _ _ _ v.begins) c.loop-i-test.true _ _ q.ensures.enclosed_as q.ensures.enclosed_within q.ensures.marking;
      begins = start_next c.args.first_ends.now c.loop-i.i;
      blank = q.ensures.blank;
    }
