-- Before turn c: the triples of the first c collectors stand in the list, and it holds m.
use Rattle.triples_code.specs.Code.{base_triples}
use Rattle.triples_code.proofs.Listing.{Listing}
use Rattle.triples_code.proofs.list_collectors.Given as goal

abbrev pub invariant-loop-c : goal.invariant-loop-c
invariant-loop-c l = Listing (base_triples l.base_marks l.emitter_marks) l.collectors l.initial.list 0 l.c l.m l.list
