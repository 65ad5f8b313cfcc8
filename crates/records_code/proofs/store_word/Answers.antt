use mathlib.Core.Path.{ap, ◌∙◌}
use mathlib.Core.List.{List}
use Prim.Native.Nat.{ℕ, ◌+◌, ◌*◌}
use mir.Syntax.{w32}
use mir.Val.{of_z}
use mir.Facts.{to_z-of_z}
use lib.ListN.{get_or, set}
use Rattle.records.proofs.Words.{word_put}
use Rattle.records_code.proofs.Bits.{pattern_bits}
use Rattle.records_code.proofs.store_word.Goals as goal

pub returns : goal.returns
returns c =
    let s = c.args.s.now in
    let at = 4 * c.args.i in
    let stored = ap (λ (bs : List ℕ). set (set (set (set s at (get_or bs 0 0)) (at + 1) (get_or bs 1 0)) (at + 2) (get_or bs 2 0)) (at + 3) (get_or bs 3 0)) c.to_le_bytes-bytes.ensures in
    stored ∙ word_put s c.args.i c.args.x _ (ap (of_z w32) (to_z-of_z {w = w32} c.ranges.x) ∙ pattern_bits c.args.x) c.requires
