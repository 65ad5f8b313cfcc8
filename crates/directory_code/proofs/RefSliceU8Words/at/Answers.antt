use mathlib.Core.Path.{sym, ◌∙◌}
use mir.Syntax.{w32}
use mir.Facts.{to_z-of_z}
use borrow.Author.Rules.{sfits_of}
use Rattle.files.proofs.Reading.{word_is}
use Rattle.directory_code.proofs.RefSliceU8Words.at.Goals as goal

pub returns : goal.returns
returns c =
    to_z-of_z {w = w32} (sfits_of c.load_word.type_inv) ∙ c.load_word.ensures ∙ sym (word_is c.args.self.now c.args.i c.requires)
