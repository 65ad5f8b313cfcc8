-- Before turn b: the triples of the first b bases stand behind the n that the list held, and it holds m.
use mathlib.Core.Bool.{cond}
use mathlib.Core.List.{[]}
use Prim.Native.Nat.{ℕ}
use lib.Dec.{eqb}
use lib.ListN.{length, get_or}
use Rattle.triples_code.specs.Code.{emitter_triples}
use Rattle.triples_code.proofs.Listing.{Listing}
use Rattle.triples_code.proofs.list_bases.Given as goal

abbrev pub invariant-loop-b : goal.invariant-loop-b
invariant-loop-b l = Listing (λ (b' : ℕ). cond (eqb (get_or l.base_marks b' 0) l.c) (emitter_triples l.emitter_marks l.c b') []) (length l.base_marks) l.initial.list l.n l.b l.m l.list
