use lib.IntN.{pos}
use mir.Facts.{to_z-of_z}
use borrow.Author.Rules.{rules}
use Rattle.records.specs.Words.{word_codec}
use Rattle.records.proofs.Words.{words_faithful}
use Rattle.layer_files_code.proofs.Laying.{store_start, store_turn}
use mir.Syntax.{w32}
use Rattle.layer_files_code.proofs.encode_words.Goals as goal

pub loop-i-init : goal.loop-i-init
loop-i-init c =
    store_start word_codec words_faithful.readable c.args.words.now c.args.out.now c.requires

pub loop-i-preserved : goal.loop-i-preserved
loop-i-preserved c =
    store_turn word_codec words_faithful.readable c.loop-i.invariant c.loop-i-test.true (pos 0) (to_z-of_z {w = w32} (search rules)) c.store_word.ensures
