-- Before turn k: the first 2k of the words are those of the file from number `start` on.
use Rattle.std.proofs.Common.{◌≡◌, ◌*◌, take, drop}
use Rattle.files.specs.Formats.{file_words}
use Rattle.files_code.proofs.load_polygon.Given as goal

abbrev pub invariant-loop-k : goal.invariant-loop-k
invariant-loop-k l = take (2 * l.k) l.words ≡ take (2 * l.k) (drop l.start (file_words l.file))
