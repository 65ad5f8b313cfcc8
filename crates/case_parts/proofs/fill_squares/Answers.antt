use mathlib.Core.Path.{◌∙◌, ap, subst}
use mathlib.Core.List.{List}
use Prim.Native.Nat.{◌-◌, ◌%◌}
use native.Mathlib.Omega.{arith}
use borrow.Author.Rules.{rules}
use lib.IntN.{ℤ, pos}
use lib.ListN.{get_or}
use mir.Syntax.{w32}
use mir.Facts.{to_z-of_z}
use Rattle.case_parts.proofs.Putting.{Putting, put_more}
use Rattle.case_parts.proofs.fill_squares.Goals as goal

pub loop-i-preserved : goal.loop-i-preserved
loop-i-preserved c =
    put_more c.loop-i.invariant (omega arith) (omega arith)
    (to_z-of_z {w = w32} (search rules) ∙ ap (λ (r : List ℤ). get_or r ((c.loop-i.i - c.args.start) % c.args.width) (pos 0)) c.square.ensures)

pub returns : goal.returns
returns c =
    let h = subst (λ (z : ℤ). Putting c.args.start c.args.width z c.args.words.now c.loop-i.words c.loop-i.i) (to_z-of_z c.ranges.sources) c.loop-i.invariant in
    record { kept = h.kept; filled = λ k from l. h.filled k from (omega arith) }
