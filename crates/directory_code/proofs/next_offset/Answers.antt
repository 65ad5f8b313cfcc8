use mathlib.Core.Path.{ap, ◌∙◌}
use native.Mathlib.Omega.{arith}
use Prim.Native.Nat.{ℕ, ◌+◌, ◌*◌, ◌-◌, ◌/◌}
use lib.IntN.{pos}
use mir.Facts.{to_z-of_z}
use Rattle.directory_code.proofs.Finding.{next_read, end_counted, units_fit}
use Rattle.directory_code.proofs.next_offset.Goals as goal

pub returns-then-i-n : goal.returns-then-i-n
returns-then-i-n g c = record { v_value = next_read c.args.f c.requires.1 c.args.i c.if-i-n.true c.word_at.ensures.v_value; magnitude = omega (arith, c.word_at.ensures.magnitude) }

pub returns-clause-v_value : goal.returns-clause-v_value
returns-clause-v_value g c =
    let fits = units_fit _ _ (omega (arith, c.size.ensures.bound)) in
    end_counted c.args.f c.requires.1 c.args.i (g.met.W.Words.all c.args.words) c.if-i-n.false
    (c.of.ensures.v_value ∙ to_z-of_z fits ∙ ap (λ (k : ℕ). pos ((k - (2 * c.args.n + 1)) / c.args.f.unit)) c.size.ensures.value)
