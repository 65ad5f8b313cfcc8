use mathlib.Core.Path.{sym, ◌∙◌}
use native.Mathlib.Omega.{arith}
use Rattle.overlay.specs.Overlaps.{overlaps}
use Rattle.remainder_code.proofs.Walking.{pass_stop, pass_found, pass_turn}
use Rattle.remainder_code.proofs.first_overlapped.Goals as goal

pub returns-then-overlapping : goal.returns-then-overlapping
returns-then-overlapping c =
    let p = c.placed_at-a in
    let o = sym c.overlapping.ensures ∙ c.if-overlapping.true in
    record {
      before = pass_found (λ t. overlaps t c.args.b.shape) c.loop-i.invariant c.loop-i-test.true p.result.shape p.ensures.shape o;
      within = c.loop-i-test.true;
      placed = p.ensures;
      passes = o;
    }

pub loop-i-preserved : goal.loop-i-preserved
loop-i-preserved c =
    pass_turn (λ t. overlaps t c.args.b.shape) c.loop-i.invariant c.loop-i-test.true c.placed_at-a.result.shape c.placed_at-a.ensures.shape (sym c.overlapping.ensures ∙ c.if-overlapping.false)

pub returns : goal.returns
returns c =
    let h = c.loop-i.invariant in
    omega (arith, h.upto, pass_stop (λ t. overlaps t c.args.b.shape) h c.loop-i-test.false)
