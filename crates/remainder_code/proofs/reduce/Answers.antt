use mathlib.Core.Path.{refl, sym, ◌∙◌}
use Prim.Native.Nat.{◌*◌, ◌-◌, ◌≤◌}
use native.Mathlib.Omega.{arith}
use lib.ListN.{length}
use borrow.Rule.Slice.PartMut.{same_len_mid}
use Rattle.records.specs.Limits.{memory_width}
use Rattle.remainder_code.proofs.Leading.{leading_fits, leading_fit, front_count, scratch_tail, back_blank}
use Rattle.remainder_code.proofs.Standing.{stand_fits, stand_all, stand_remaining, stand_placed, full_few, done_few, back_length, stand_full, stand_done}
use Rattle.remainder_code.proofs.reduce.Goals as goal

pub first_overlapped-requires : goal.first_overlapped-requires
first_overlapped-requires c =
    let a = c.args in
    (leading_fit a.out.now a.n a.room c.requires.placed_as.1, c.requires.placed_as.0)

pub returns-in_default-clause-minus_written : goal.returns-in_default-clause-minus_written
returns-in_default-clause-minus_written c =
    let a = c.args in
    let h = c.requires.placed_as.1 in
    stand_all a.out.now a.n a.room h a.b.shape a.n (sym (front_count a.out.now a.n (leading_fits a.out.now a.n a.room h)) ∙ c.in_default.ensures) refl

pub replace-f-requires : goal.replace-f-requires
replace-f-requires c =
    let a = c.args in
    let v = c.in-Some.v in
    let found = c.in-Some.ensures in
    record {
      placed_as = (c.requires.placed_as.0, stand_remaining a.out.now a.n a.room c.requires.placed_as.1 a.b.shape v.before found.before);
      scratch_for = scratch_tail a.out.now a.scratch.now v.before c.requires.scratch_for;
      first_placed = stand_placed a.out.now a.n a.room c.requires.placed_as.1 a.b.shape v.before found.before v found refl;
    }

pub slice_bounds-fill-end : goal.slice_bounds-fill-end
slice_bounds-fill-end c =
    let a = c.args in
    let v = c.in-Some.v in
    let found = c.in-Some.ensures in
    let f = c.replace-f in
    let e = memory_width * v.before in
    omega (arith, stand_fits a.out.now a.n a.room c.requires.placed_as.1 a.b.shape v.before found.before, same_len_mid e (length a.out.now - e) a.out.now f.new.out f.auto.out)

pub slice_bounds-fill-end-in-Err : goal.slice_bounds-fill-end-in-Err
slice_bounds-fill-end-in-Err c =
    let a = c.args in
    let v = c.in-Some.v in
    let found = c.in-Some.ensures in
    let f = c.replace-f in
    back_length a.out.now a.n a.room c.requires.placed_as.1 a.b.shape v.before found.before f.result f.new.out f.ensures.minus_written

pub overflow_add-result-in-Err : goal.overflow_add-result-in-Err
overflow_add-result-in-Err c =
    let a = c.args in
    let v = c.in-Some.v in
    let found = c.in-Some.ensures in
    let f = c.replace-f in
    omega (arith, full_few a.out.now a.n a.room c.requires.placed_as.1 a.b.shape v.before found.before f.result f.new.out f.ensures.minus_written _ c.in-Err.is)

pub overflow_add-result-in-Ok : goal.overflow_add-result-in-Ok
overflow_add-result-in-Ok c =
    let a = c.args in
    let v = c.in-Some.v in
    let found = c.in-Some.ensures in
    let f = c.replace-f in
    omega (arith, (done_few a.out.now a.n a.room c.requires.placed_as.1 a.b.shape v.before found.before f.result f.new.out f.ensures.minus_written _ _ c.in-Ok.is).1)

pub returns-in-Err : goal.returns-in-Err
returns-in-Err c =
    let a = c.args in
    let v = c.in-Some.v in
    let found = c.in-Some.ensures in
    let f = c.replace-f in
    let fits : memory_width * v.before ≤ length a.out.now = stand_fits a.out.now a.n a.room c.requires.placed_as.1 a.b.shape v.before found.before in
    record {
      minus_written = stand_full a.out.now a.n a.room c.requires.placed_as.1 a.b.shape v.before found.before f.result f.new.out f.ensures.minus_written _ c.in-Err.is c.fill.new.self (c.fill.ensures.after (λ y h. h));
      blank = back_blank a.scratch.now v.before (omega (arith, fits, c.requires.scratch_for.1)) f.new.scratch c.requires.scratch_for.0 f.ensures.blank;
    }

pub returns-in-Ok : goal.returns-in-Ok
returns-in-Ok c =
    let a = c.args in
    let v = c.in-Some.v in
    let found = c.in-Some.ensures in
    let f = c.replace-f in
    let fits : memory_width * v.before ≤ length a.out.now = stand_fits a.out.now a.n a.room c.requires.placed_as.1 a.b.shape v.before found.before in
    record {
      minus_written = stand_done a.out.now a.n a.room c.requires.placed_as.1 a.b.shape v.before found.before f.result f.new.out f.ensures.minus_written _ _ c.in-Ok.is;
      blank = back_blank a.scratch.now v.before (omega (arith, fits, c.requires.scratch_for.1)) f.new.scratch c.requires.scratch_for.0 f.ensures.blank;
    }
