use native.Mathlib.Omega.{arith}
use mathlib.Core.Path.{◌∙◌}
use mir.Syntax.{w32}
use mir.Facts.{to_z-of_z}
use borrow.Author.Rules.{sfits_of}
use Rattle.files.specs.Formats.{file_words}
use Rattle.files.proofs.Reading.{length_file}
use Rattle.files_code.proofs.Loading.{word_more}
use Rattle.files_code.proofs.load_words.Goals as goal

pub loop-i-preserved : goal.loop-i-preserved
loop-i-preserved c =
    word_more c.loop-i.out (file_words c.args.file.now) c.args.start c.loop-i.i (omega (arith, c.loop-i-test.true, c.loop-i.auto.out)) (omega (arith, c.loop-i-test.true, length_file c.args.file.now)) c.loop-i.invariant (to_z-of_z {w = w32} (sfits_of c.at.type_inv) ∙ c.at.ensures)
