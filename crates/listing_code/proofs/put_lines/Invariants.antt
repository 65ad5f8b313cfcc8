-- Before turn i: the lines from number i on, written at `next`, complete the lines at `at`; `next` is at most `line_room` times i past `at`.
use Prim.Native.Nat.{◌+◌, ◌*◌, ◌-◌, ◌≤◌}
use Rattle.listing.specs.Listing.{lines_from, line_room}
use Rattle.listing_code.proofs.Texts.{Going}
use Rattle.listing_code.proofs.put_lines.Given as goal

abbrev pub invariant-loop-i : goal.invariant-loop-i
invariant-loop-i l = Going l.initial.out l.at (lines_from l.n l.words 0) l.out l.next (lines_from (l.n - l.i) l.words l.i) × (l.next ≤ l.at + line_room * l.i)
