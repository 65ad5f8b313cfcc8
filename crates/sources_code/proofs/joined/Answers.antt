use mathlib.Core.Path.{ap, ◌∙◌}
use lib.Bits.{bit_or}
use mir.Facts.{to_z-of_z}
use borrow.Author.Rules.{sfits_of}
use Rattle.records.specs.Words.{signed, pattern}
use Rattle.sources.proofs.Sets.{joined-pattern}
use mir.Syntax.{w32}
use Rattle.sources_code.proofs.joined.Goals as goal

pub returns : goal.returns
returns c =
    let p = c.pattern.ensures.value ∙ ap pattern (to_z-of_z c.ranges.a) in
    let q = c.pattern-2.ensures.value ∙ ap pattern (to_z-of_z c.ranges.b) in
    to_z-of_z {w = w32} (sfits_of c.signed.type_inv)
    ∙ c.signed.ensures
    ∙ (λ i. signed (bit_or (p i) (q i)))
    ∙ joined-pattern c.args.a c.args.b c.ranges.a.sfits c.ranges.b.sfits
