use mathlib.Core.Path.{◌≡◌, sym, ◌∙◌}
use Prim.Native.Nat.{◌+◌, ◌<◌, ◌≤◌}
use native.Mathlib.Omega.{arith}
use mathlib.Core.Bool.{cond, ◌&&◌}
use lib.Dec.{eqb}
use lib.ListN.{length, get_or}
use Rattle.overlay.specs.Overlay.{tag_of}
use lib.IntN.{pos}
use borrow.Author.Rules.{rules}
use Rattle.records.proofs.Buffer.{blank_of}
use Rattle.strips_code.proofs.Stacking.{below_by, rest_of, rest_count, rest_at, both_yes, both_no, chosen, left_alone, stack_none, stack_start, stack_last, stack_end, stack_full, stack_next}
use Rattle.overlay_events_code.specs.Events.{named}
use Rattle.strips_code.proofs.fill_column.Goals as goal
use Rattle.strips_code.proofs.fill_column.Goals.{then-rises, else-rises, then-rises-2, else-rises-2}

pub returns-then-not-present : goal.returns-then-not-present
returns-then-not-present c =
    let a = c.args in
    stack_none a.tag a.a a.b (named a.a a.b a.p) (named a.a a.b a.q) a.c.in_a a.c.in_b a.c.order c.requires.1 a.out.now a.room c.requires.2 (sym c.present.ensures ∙ c.if-not-present.true)

pub loop-z-init : goal.loop-z-init
loop-z-init c =
    let a = c.args in
    stack_start a.tag a.a a.b (named a.a a.b a.p) (named a.a a.b a.q) a.c.in_a a.c.in_b a.c.order c.requires.1 a.out.now a.room c.requires.2 (sym c.present.ensures ∙ c.if-not-present.false) _ _ c.pass-inside_a.ensures c.pass-inside_b.ensures

pub returns-then-not-present-2 : goal.returns-then-not-present-2
returns-then-not-present-2 c =
    let order = c.args.c.order in
    let l : c.loop-z.z-index + 1 < 4 = omega (arith, c.loop-z-test.true, rest_count order c.requires.1) in
    stack_end _ _ _ _ _ _ _ c.loop-z.invariant l _ (rest_at order c.loop-z.z-index) (sym c.present-in-loop-z.ensures ∙ c.if-not-present-2.true)

pub returns-in_default : goal.returns-in_default
returns-in_default c =
    let order = c.args.c.order in
    let l : c.loop-z.z-index + 1 < 4 = omega (arith, c.loop-z-test.true, rest_count order c.requires.1) in
    let e = sym c.present-in-loop-z.ensures ∙ c.if-not-present-2.false in
    let rises = below_by _ _ _ c.is_lt-rises.ensures (c.order_of.ensures _ _ _ _ _ c.requires.0 e) in
    let yes : c.if-rises.yes ≡ c.is_lt-rises.result && eqb (tag_of c.loop-z.inside_a c.loop-z.inside_b) c.args.tag
    = elim c.if-rises.branch [ then-rises w ↦ both_yes w.if-rises.true (w.yes-is ∙ w.has_tag-yes.ensures) | else-rises w ↦ both_no _ w.if-rises.false w.yes-is ] in
    let n : length c.fill.new.self ≡ length c.args.out.now = (search rules) in
    let blank = blank_of (pos 0) c.fill.new.self _ (c.fill.ensures.after (λ y h. h)) in
    (stack_full _ _ _ _ _ _ _ c.loop-z.invariant l _ (rest_at order c.loop-z.z-index) e _ _ rises yes _ _ c.put_strip.ensures c.in_default.is, rw (← n) blank)

pub loop-z-preserved : goal.loop-z-preserved
loop-z-preserved c =
    let order = c.args.c.order in
    let l : c.loop-z.z-index + 1 < 4 = omega (arith, c.loop-z-test.true, rest_count order c.requires.1) in
    let e = sym c.present-in-loop-z.ensures ∙ c.if-not-present-2.false in
    let rises = below_by _ _ _ c.is_lt-rises.ensures (c.order_of.ensures _ _ _ _ _ c.requires.0 e) in
    let yes : c.if-rises.yes ≡ c.is_lt-rises.result && eqb (tag_of c.loop-z.inside_a c.loop-z.inside_b) c.args.tag
    = elim c.if-rises.branch [ then-rises w ↦ both_yes w.if-rises.true (w.yes-is ∙ w.has_tag-yes.ensures) | else-rises w ↦ both_no _ w.if-rises.false w.yes-is ] in
    let low : c.if-rises-2.lower ≡ cond c.is_lt-rises.result (get_or (rest_of order) c.loop-z.z-index 0) c.loop-z.lower
    = elim c.if-rises-2.branch [ then-rises-2 w ↦ chosen _ w.if-rises-2.true w.lower-is | else-rises-2 w ↦ left_alone _ w.if-rises-2.false w.lower-is ] in
    stack_next _ _ _ _ _ _ _ c.loop-z.invariant l _ (rest_at order c.loop-z.z-index) e _ _ rises yes _ _ c.put_strip.ensures _ c.in-Some.is _ _ _ low c.pass-inside_a-in-loop-z.ensures c.pass-inside_b-in-loop-z.ensures

pub returns : goal.returns
returns c =
    let l : 4 ≤ c.loop-z.z-index + 1 = omega (arith, c.loop-z-test.false, rest_count c.args.c.order c.requires.1) in
    stack_last _ _ _ _ _ _ _ c.loop-z.invariant l
