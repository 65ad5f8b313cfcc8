use mathlib.Core.Path.{sym}
use lib.ListN.{length}
use Rattle.overlay_code.proofs.Within.{of_first_lem}
use Rattle.remainder_code.proofs.One.{first_folded}
use Rattle.remainder_code.proofs.cut_into.Goals as goal

pub overlapping_into-requires : goal.overlapping_into-requires
overlapping_into-requires c = let h = c.requires in (h.0, of_first_lem, h.1, h.2)

pub returns : goal.returns
returns c =
    let a = c.args in
    let f = c.overlapping_into in
    first_folded (length a.out.now) a.room a.a.shape a.b.shape f.result _ f.new.out f.ensures (sym c.once.ensures)
