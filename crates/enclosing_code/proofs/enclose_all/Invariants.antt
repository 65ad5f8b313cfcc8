-- Before turn i: the groups with numbers below i were tried with each of the second layer, a row took at most `max_records * overlays_of_layer` overlays, group i
-- begins at `start`, and the output and the scratch area are blank.
use mathlib.Core.Path.{◌≡◌}
use lib.ListN.{length}
use lib.IntN.{pos}
use Rattle.records.specs.Records.{Blank}
use Rattle.geometry.specs.Trapezoids.{layer_of}
use Rattle.shapes_code.specs.Code.{start_of, group_at}
use Rattle.enclosing_code.proofs.Rows.{TryingAll}
use Rattle.enclosing_code.proofs.enclose_all.Given as goal

abbrev pub invariant-loop-i : goal.invariant-loop-i
invariant-loop-i l = record {
  tried : TryingAll l.room (group_at l.first_ends (layer_of l.first)) (group_at l.second_ends (layer_of l.second)) (length l.first_ends) (length l.second_ends) l.marks l.made l.i;
  begins : l.start ≡ start_of l.first_ends l.i;
  blank : Blank (pos 0) l.out × Blank (pos 0) l.scratch;
}
