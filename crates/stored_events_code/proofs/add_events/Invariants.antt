use Prim.Native.Nat.{ℕ}
use Rattle.geometry.specs.Polygons.{PolygonOnGrid}
use Rattle.geometry_code.specs.Polygons.{polygon_of}
use Rattle.stored_events_code.proofs.Marks.{Marking}
use Rattle.stored_events_code.proofs.add_events.Given as goal

abbrev pub invariant-loop-k : goal.invariant-loop-k
invariant-loop-k l = (L : ℕ) → PolygonOnGrid L (polygon_of l.words) → Marking L l.words l.edges l.lines l.n l.num l.den l.name l.k
