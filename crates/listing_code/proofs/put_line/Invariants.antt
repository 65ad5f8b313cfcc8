-- Before turn j: the fields from word j on, written at `next`, complete the line at `at`; `next` is at most `field_room` times j − `start` past `at`.
use Prim.Native.Nat.{◌+◌, ◌*◌, ◌≤◌}
use lib.ListN.{length}
use lib.Seq.{slice}
use Rattle.listing.specs.Listing.{words_line, record_line, field_room}
use Rattle.listing_code.proofs.Texts.{Going}
use Rattle.listing_code.proofs.put_line.Given as goal

abbrev pub invariant-loop-j : goal.invariant-loop-j
invariant-loop-j l = Going l.initial.out l.at (record_line l.words l.i) l.out l.next (words_line (slice l.j l.end l.words)) × (l.end ≤ length l.words) × (l.next + field_room * l.start ≤ l.at + field_room * l.j)
