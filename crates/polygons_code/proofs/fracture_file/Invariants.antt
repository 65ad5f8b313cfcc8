-- Before turn i: `out` holds the n trapezoids of the polygons before number i, and the polygons from number i on are on the grid.
use lib.ListN.{length}
use Rattle.files.specs.Formats.{file_words}
use Rattle.stored_events_code.specs.Events.{Wide}
use Rattle.polygons_code.proofs.Cutting.{Cutting}
use Rattle.polygons_code.proofs.fracture_file.Given as goal

abbrev pub invariant-loop-i : goal.invariant-loop-i
invariant-loop-i l = Cutting l.edition l.limit (file_words l.file) (length l.initial.out) l.room l.out l.i l.n × Wide l.num l.den l.name
