-- Before each turn: of the column's trapezoids with the tag n are in `out`, all but those whose top is a side still to come.
-- The next has the side `lower` as its bottom, and lies in a and in b as `inside_a` and `inside_b` say.
use Prim.Native.Nat.{◌+◌}
use lib.ListN.{length}
use Rattle.overlay_events_code.specs.Events.{named}
use Rattle.strips_code.proofs.Stacking.{Stacking}
use Rattle.strips_code.proofs.fill_column.Given as goal

abbrev pub invariant-loop-z : goal.invariant-loop-z
invariant-loop-z l =
    Stacking l.tag l.a l.b (named l.a l.b l.p) (named l.a l.b l.q) l.fn.c.in_a l.fn.c.in_b (length l.initial.out) l.room l.fn.c.order l.out l.lower l.inside_a l.inside_b l.n (l.z-index + 1)
