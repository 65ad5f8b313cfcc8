-- Before turn i: the first i words of `out` are those of the file from number `start` on.
use Rattle.std.proofs.Common.{◌≡◌, take, drop}
use Rattle.files.specs.Formats.{file_words}
use Rattle.files_code.proofs.load_words.Given as goal

abbrev pub invariant-loop-i : goal.invariant-loop-i
invariant-loop-i l = take l.i l.out ≡ take l.i (drop l.start (file_words l.file))
