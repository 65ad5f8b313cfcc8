-- Before each turn: the edges up to vertex number k are there, m of them; those from that vertex on are to come.
use Prim.Native.Nat.{◌*◌}
use Rattle.polygon_edges_code.proofs.Building.{Building}
use Rattle.polygon_edges_code.proofs.edges_into.Given as goal

abbrev pub invariant-loop-k : goal.invariant-loop-k
invariant-loop-k l = Building l.words l.lines l.terms l.m (2 * l.k)
