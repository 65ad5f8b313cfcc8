-- Before a turn of the search: none of the first trapezoids, before number `later`, overlaps one before it, and nothing is found. Before a turn inside: number
-- `later` overlaps none before number `earlier`, and nothing is found.
use Rattle.std.specs.Prelude.{◌≡◌, None, ◌-◌}
use Rattle.disjoint_code.proofs.Searching.{Searching, NoneBefore}
use Rattle.disjoint_code.proofs.first_overlap.Given as goal

abbrev pub invariant-loop-earlier : goal.invariant-loop-earlier
invariant-loop-earlier l = record { before : NoneBefore l.layer.words.now l.later l.earlier; nothing : l.overlapping ≡ None }

abbrev pub decreases-loop-earlier : goal.decreases-loop-earlier
decreases-loop-earlier l = l.later - l.earlier

abbrev pub invariant-search : goal.invariant-search
invariant-search l = record { searching : Searching l.start l.layer.words.now l.later; nothing : l.overlapping ≡ None }
