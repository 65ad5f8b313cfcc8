use mathlib.Core.Path.{◌≡◌, ◌∙◌, ap}
use Prim.Native.Nat.{ℕ, ◌*◌, ◌-◌}
use native.Mathlib.Omega.{arith}
use lib.ListN.{length, replicate}
use lib.IntN.{pos}
use borrow.Rule.Slice.PartMut.{put_mid, same_len_mid}
use Rattle.records.specs.Limits.{memory_width}
use Rattle.trapezoids_code.proofs.Writing.{write_borrowed}
use Rattle.fracture_code.proofs.Slabs.{stacked_start, stacked_stop, stacked_low, stacked_within, stacked_light, stacked_full, stacked_closed, stacked_kept, stacked_open, stacked_idle}
use Rattle.fracture_code.proofs.fill_groups.Goals as goal
use Rattle.fracture_code.proofs.fill_groups.Goals.{in-Some+in-Some-put, in-Some+else-zero, in-None, in-None+else-not-zero}

pub loop-k-init : goal.loop-k-init
loop-k-init c = stacked_start c.requires.0 c.args.out.now c.args.room c.requires.1 _ c.of-sum.ensures.v_value

pub add-sum-requires : goal.add-sum-requires
add-sum-requires c =
    let h = c.loop-k.invariant in
    let w = stacked_light h c.loop-k-test.true _ c.get_number.ensures in
    omega (arith, w, h.small, h.upto, h.summable.few)

pub between-t-requires : goal.between-t-requires
between-t-requires c =
    let h = c.loop-k.invariant in
    (h.summable.lines, stacked_low h _ c.in-Some.is, stacked_within h c.loop-k-test.true)

pub put-requires : goal.put-requires
put-requires c = write_borrowed c.loop-k.invariant.writing

pub returns-in_default-put : goal.returns-in_default-put
returns-in_default-put c =
    let l = c.loop-k in
    let h = l.invariant in
    let g = c.get_number.ensures in
    let a = c.add-sum.ensures in
    let long : length (put_mid (memory_width * l.n) (length l.out - memory_width * l.n) l.out c.put.new.out) ≡ length c.args.out.now = same_len_mid (memory_width * l.n) (length l.out - memory_width * l.n) l.out c.put.new.out c.put.auto.out ∙ h.writing.long in (
      stacked_full h c.loop-k-test.true _ g _ a.v_value a.magnitude _ c.is_zero-zero.ensures _ c.in-Some.is c.if-zero.true _ c.between-t.ensures _ _ c.put.ensures c.in_default-put.is,
      c.fill.ensures.after (λ y h. h) ∙ ap (λ (k : ℕ). replicate k (pos 0)) long,
    )

pub loop-k-preserved : goal.loop-k-preserved
loop-k-preserved c =
    let h = c.loop-k.invariant in
    let l = c.loop-k-test.true in
    let g = c.get_number.ensures in
    let a = c.add-sum.ensures in
    let z = c.is_zero-zero.ensures in
    elim c.match-bottom.branch [
      | in-Some+in-Some-put w ↦ rw (w.out-is, w.bottom-is, w.n-is) (stacked_closed h l _ g _ a.v_value a.magnitude _ z _ w.in-Some.is w.if-zero.true _ w.between-t.ensures _ _ w.put.ensures _ w.in-Some-put.is)
      | in-Some+else-zero w ↦ rw (w.out-is, w.bottom-is, w.n-is) (stacked_kept h l _ g _ a.v_value a.magnitude _ z _ w.in-Some.is w.if-zero.false)
      | in-None w ↦ rw (w.out-is, w.bottom-is, w.n-is) (stacked_open h l _ g _ a.v_value a.magnitude _ z w.in-None.is w.if-not-zero.true)
      | in-None+else-not-zero w ↦ rw (w.out-is, w.bottom-is, w.n-is) (stacked_idle h l _ g _ a.v_value a.magnitude _ z w.in-None.is w.if-not-zero.false)
    ]

pub returns : goal.returns
returns c = stacked_stop c.loop-k.invariant (omega (arith, c.loop-k-test.false))
