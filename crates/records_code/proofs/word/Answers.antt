use mathlib.Core.Path.{◌≡◌, ap, ◌∙◌}
use Prim.Native.Nat.{◌+◌, ◌*◌}
use native.Mathlib.Omega.{arith}
use mir.Syntax.{w32}
use mir.Facts.{to_z-of_z}
use borrow.Author.Rules.{sfits_of}
use Rattle.records.specs.Words.{unsigned, signed}
use Rattle.records_code.proofs.Bits.{signed_bits}
use Rattle.records_code.proofs.word.Goals as goal

pub returns : goal.returns
unfolding unsigned
returns c =
    let s = c.args in
    let e : s.b0 + s.b1 * 256 + s.b2 * 65536 + s.b3 * 16777216 ≡ unsigned s.b0 s.b1 s.b2 s.b3 = omega arith in
    to_z-of_z {w = w32} (sfits_of c.from_le_bytes.type_inv) ∙ c.from_le_bytes.ensures ∙ signed_bits (s.b0 + s.b1 * 256 + s.b2 * 65536 + s.b3 * 16777216) ∙ ap signed e
