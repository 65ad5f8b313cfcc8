use mathlib.Core.Path.{◌∙◌}
use mir.Syntax.{w32}
use mir.Facts.{to_z-of_z}
use borrow.Author.Rules.{sfits_of}
use Rattle.records_code.proofs.Bits.{signed_bits}
use Rattle.records_code.proofs.signed.Goals as goal

pub returns : goal.returns
returns c = to_z-of_z {w = w32} (sfits_of c.cast_signed.type_inv) ∙ c.cast_signed.ensures ∙ signed_bits c.args.n
