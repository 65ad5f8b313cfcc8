use mathlib.Core.Path.{◌∙◌}
use mir.Syntax.{w32}
use mir.Facts.{to_z-of_z}
use borrow.Author.Rules.{sfits_of}
use Rattle.records.proofs.Words.{word_at}
use Rattle.records_code.proofs.load_word.Goals as goal

pub returns : goal.returns
returns c =
    let s = c.args in to_z-of_z {w = w32} (sfits_of c.word.type_inv) ∙ c.word.ensures ∙ word_at s.s.now s.i
