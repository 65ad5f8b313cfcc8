-- Before turn i: the first 4i bytes of `out` are those of the first i words, and the rest are as they were.
use Rattle.records.specs.Words.{word_codec}
use Rattle.layer_files_code.proofs.Laying.{Stored}
use Rattle.layer_files_code.proofs.encode_words.Given as goal

abbrev pub invariant-loop-i : goal.invariant-loop-i
invariant-loop-i l = Stored word_codec l.words l.initial.out l.out l.i
