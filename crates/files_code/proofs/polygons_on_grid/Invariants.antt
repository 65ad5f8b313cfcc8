-- Before turn i: the answer is that of the polygons from number i on, whose vertices begin at number `from`, at most 2048.
-- The directory's pairs from number i on are right.
use Rattle.files.specs.Formats.{file_words}
use Rattle.files_code.proofs.Passing.{Cutting}
use Rattle.files_code.proofs.polygons_on_grid.Given as goal

abbrev pub invariant-loop-i : goal.invariant-loop-i
invariant-loop-i l = Cutting l.edition l.limit (file_words l.file) l.n l.i l.from
