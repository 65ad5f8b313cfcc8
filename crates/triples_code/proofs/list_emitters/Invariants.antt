-- Before turn e: the triples of the first e emitters stand behind the n that the list held, and it holds m.
use Prim.Native.Nat.{ℕ}
use lib.Dec.{eqb}
use lib.ListN.{length, get_or}
use Rattle.extraction.specs.Extraction.{triple_if}
use Rattle.triples_code.proofs.Listing.{Listing}
use Rattle.triples_code.proofs.list_emitters.Given as goal

abbrev pub invariant-loop-e : goal.invariant-loop-e
invariant-loop-e l = Listing (λ (e' : ℕ). triple_if (eqb (get_or l.emitter_marks e' 0) l.b) l.c l.b e') (length l.emitter_marks) l.initial.list l.n l.e l.m l.list
