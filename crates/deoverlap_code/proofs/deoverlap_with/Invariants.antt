-- Before turn i: the first i trapezoids of the layer deoverlapped stand in `out`, with their boxes in `boxes`, each took at most `overlays_of_one`
-- overlays, and the scratch area is blank.
use mathlib.Core.Path.{◌≡◌}
use lib.ListN.{length}
use Rattle.boxes_code.specs.Code.{BoxesOf}
use Rattle.remainder_code.specs.Code.{front}
use Rattle.deoverlap_code.proofs.DeoverlapLoop.{Deoverlapping}
use Rattle.deoverlap_code.proofs.deoverlap_with.Given as goal

abbrev pub invariant-loop-i : goal.invariant-loop-i
invariant-loop-i l = Deoverlapping (length l.initial.out) l.room l.layer l.out l.scratch l.k l.sum l.i × BoxesOf (front l.out l.k) l.boxes × (length l.boxes ≡ length l.initial.boxes)
