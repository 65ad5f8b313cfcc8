use mathlib.Core.Path.{◌≡◌, ◌∙◌, ap, subst}
use Prim.Native.Nat.{ℕ}
use native.Mathlib.Omega.{arith}
use lib.ListN.{length, replicate}
use lib.IntN.{pos}
use Rattle.records.specs.Records.{count}
use Rattle.geometry.specs.Trapezoids.{trapezoid_codec, layer_of}
use Rattle.boolean.specs.Operations.{minus}
use Rattle.boolean.specs.Space.{minus_stages}
use Rattle.boolean.specs.Folds.{folded}
use Rattle.trapezoids_code.proofs.Placed.{placed_own}
use Rattle.overlay_code.proofs.Within.{of_first_lem}
use Rattle.remainder_code.specs.Code.{FoldedAs, once}
use Rattle.remainder_code.proofs.Folding.{fold_stop, fold_borrowed, fold_long}
use Rattle.remainder_code.proofs.MinusFold.{minus_turn, first_full, first_keeps}
use Rattle.remainder_code.proofs.minus_into.Goals as goal

pub overlapping_into-requires : goal.overlapping_into-requires
overlapping_into-requires c =
    let h = c.requires in
    (record { first = placed_own h.first_placed.placed; second = h.placed_as.0 }, of_first_lem, h.first_placed.passes, record { blank = h.placed_as.1.blank; wide = omega (arith, h.placed_as.1.wide) })

pub returns-in_default : goal.returns-in_default
returns-in_default c =
    let s = c.args in
    let h = c.requires in
    let f = c.overlapping_into in (
      first_full s.b.shape s.room s.remainder.now s.out.now h.placed_as.1 h.all.0 h.all.1 h.first_placed.some s.first.shape h.first_placed.placed.shape f.result f.new.out f.ensures c.in_default.is,
      c.fill.ensures.after (λ y h. h) ∙ ap (λ (n : ℕ). replicate n (pos 0)) f.auto.out,
    )

pub loop-i-init : goal.loop-i-init
loop-i-init c =
    let s = c.args in
    let h = c.requires in
    let f = c.overlapping_into in
    first_keeps s.b.shape s.room s.remainder.now s.out.now h.placed_as.1 h.all.0 h.all.1 h.first_placed.some s.first.shape h.first_placed.placed.shape f.result f.new.out f.ensures _ c.in-Some.is

pub overlay_into-requires : goal.overlay_into-requires
overlay_into-requires c =
    (record { first = placed_own c.placed_at-a.ensures; second = c.requires.placed_as.0 }, of_first_lem, fold_borrowed c.loop-i.invariant.0 _ (omega (arith, c.loop-i.invariant.0.within)))

pub returns-in_default-overlay_into : goal.returns-in_default-overlay_into
returns-in_default-overlay_into c =
    let turn = minus_turn c.args.b.shape c.args.room c.loop-i.invariant.0 c.loop-i.invariant.1 c.loop-i-test.true c.placed_at-a.result.shape c.placed_at-a.ensures.shape c.overlay_into.result c.overlay_into.new.out c.overlay_into.ensures in
    let e = fold_long c.loop-i.invariant.0 c.overlay_into.new.out c.overlay_into.auto.out ∙ c.overlapping_into.auto.out in
    (turn.full 1 (ap once c.in_default-overlay_into.is), c.fill-in_default-overlay_into.ensures.after (λ y h. h) ∙ ap (λ (n : ℕ). replicate n (pos 0)) e)

pub loop-i-preserved : goal.loop-i-preserved
loop-i-preserved c =
    let h = c.loop-i.invariant in
    let turn = minus_turn c.args.b.shape c.args.room h.0 h.1 c.loop-i-test.true c.placed_at-a.result.shape c.placed_at-a.ensures.shape c.overlay_into.result c.overlay_into.new.out c.overlay_into.ensures in
    let e = ap once c.in-Some-overlay_into.is in
    let u = turn.fits _ 1 e in
    (turn.keeps _ 1 e, omega (arith, u, h.1, c.loop-i-test.true))

pub returns : goal.returns
returns c =
    let kept : length c.overlapping_into.new.out ≡ length c.args.out.now = c.overlapping_into.auto.out in
    let h = c.loop-i.invariant.0 in
    let s = c.args in
    let n = count trapezoid_codec s.remainder.now in
    subst (λ (W : ℕ). FoldedAs W s.room (minus (layer_of s.remainder.now) s.b.shape) (minus_stages 0 (layer_of s.remainder.now) s.b.shape) (folded c.loop-i.k n) c.loop-i.out) kept
    (fold_stop h c.loop-i-test.false n (omega (arith, h.upto, c.loop-i-test.false)))
