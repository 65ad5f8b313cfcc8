use mathlib.Core.Path.{◌≡◌, ◌∙◌, ap}
use Prim.Native.Nat.{ℕ, ◌*◌, ◌-◌}
use native.Mathlib.Omega.{arith}
use lib.ListN.{length, replicate}
use lib.IntN.{pos}
use borrow.Rule.Slice.PartMut.{put_mid, same_len_mid}
use Rattle.records.specs.Limits.{memory_width}
use Rattle.trapezoids_code.proofs.Writing.{write_borrowed}
use Rattle.stored_events_code.proofs.Entering.{listed_valid}
use Rattle.fracture_code.proofs.Slabs.{gathered-sum}
use Rattle.fracture_code.proofs.Sweeping.{gathered_move, sweeping_none, sweeping_start, sweeping_stop, sweeping_full, sweeping_next}
use Rattle.fracture_code.proofs.fill_events.Goals as goal

pub returns-then-n-eq0 : goal.returns-then-n-eq0
returns-then-n-eq0 c = sweeping_none c.args.edges c.args.terms.now c.requires.3 c.args.out.now c.args.room c.requires.6 (omega (arith, c.if-n-eq0.true))

pub loop-i-init : goal.loop-i-init
loop-i-init c =
    sweeping_start c.args.edges c.args.terms.now c.requires.3 c.args.out.now c.args.room _ _ c.requires.6 c.requires.4 c.requires.5 (omega (arith, c.if-n-eq0.false)) _ c.event_number-p.ensures

pub event_number-q-requires : goal.event_number-q-requires
event_number-q-requires c =
    (c.requires.0.lines.long, c.requires.2, c.requires.3.wide, omega (arith, c.requires.3.few, c.loop-i-test.true), listed_valid c.requires.3 _ c.loop-i-test.true)

pub fill_groups-requires : goal.fill_groups-requires
fill_groups-requires c = (gathered-sum c.requires.0 c.gather-m.ensures, write_borrowed c.loop-i.invariant.writing)

pub returns-in_default : goal.returns-in_default
returns-in_default c =
    let l = c.loop-i in
    let f = c.fill_groups in
    let long : length (put_mid (memory_width * l.done) (length l.out - memory_width * l.done) l.out f.new.out) ≡ length c.args.out.now = same_len_mid (memory_width * l.done) (length l.out - memory_width * l.done) l.out f.new.out f.auto.out ∙ l.invariant.writing.long in (
      sweeping_full c.args.edges c.args.terms.now c.requires.3 l.invariant c.requires.1 c.loop-i-test.true _ c.event_number-q.ensures _ _ _ (gathered_move l.invariant.event.is c.gather-m.ensures) _ _ f.ensures c.in_default.is,
      c.fill.ensures.after (λ y h. h) ∙ ap (λ (k : ℕ). replicate k (pos 0)) long,
    )

pub loop-i-preserved : goal.loop-i-preserved
loop-i-preserved c =
    let h = c.loop-i.invariant in
    sweeping_next c.args.edges c.args.terms.now c.requires.3 h c.requires.1 c.loop-i-test.true _ c.event_number-q.ensures _ _ _ (gathered_move h.event.is c.gather-m.ensures) _ _ c.fill_groups.ensures _ c.in-Some.is

pub returns : goal.returns
returns c = sweeping_stop c.args.edges c.args.terms.now c.requires.3 c.loop-i.invariant (omega (arith, c.loop-i-test.false))
