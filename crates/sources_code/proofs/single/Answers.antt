use mathlib.Core.Path.{ap, ◌∙◌}
use Rattle.records.specs.Words.{signed}
use mir.Facts.{to_z-of_z}
use borrow.Author.Rules.{sfits_of}
use Rattle.sources.proofs.Sets.{single_shift}
use mir.Syntax.{w32}
use Rattle.sources_code.proofs.single.Goals as goal

pub returns : goal.returns
returns c = to_z-of_z {w = w32} (sfits_of c.signed.type_inv) ∙ c.signed.ensures ∙ ap signed c.from.ensures ∙ single_shift c.args.layer c.requires
