-- Before each turn: `out` holds n trapezoids with the tag, all but those right of event number i; c has the four sides in the order of the column before it.
use lib.ListN.{length}
use Rattle.overlay_code.proofs.Filling.{Filling}
use Rattle.overlay_code.proofs.fill_columns.Given as goal

abbrev pub invariant-loop-i : goal.invariant-loop-i
invariant-loop-i l = Filling l.a.shape l.b.shape l.tag (length l.initial.out) l.room l.count l.num l.den l.name l.out l.c.order l.n l.i
