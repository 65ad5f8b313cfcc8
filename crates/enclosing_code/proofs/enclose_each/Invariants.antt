-- Before turn j: the shape was tried with the groups with numbers below j, each took at most `overlays_of_layer` overlays, group j begins at `start`, and the
-- output and the scratch area are blank.
use mathlib.Core.Path.{◌≡◌}
use lib.IntN.{pos}
use Rattle.records.specs.Records.{Blank}
use Rattle.geometry.specs.Trapezoids.{layer_of}
use Rattle.shapes_code.specs.Code.{start_of, group_at}
use Rattle.enclosing_code.proofs.Rows.{Trying}
use Rattle.enclosing_code.proofs.enclose_each.Given as goal

abbrev pub invariant-loop-j : goal.invariant-loop-j
invariant-loop-j l = record {
  tried : Trying l.room (layer_of l.shape) l.number (group_at l.ends (layer_of l.layer)) l.initial.marks l.marks l.made l.j;
  begins : l.start ≡ start_of l.ends l.j;
  blank : Blank (pos 0) l.out × Blank (pos 0) l.scratch;
}
