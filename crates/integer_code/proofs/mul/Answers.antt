use Prim.Native.Nat.{◌*◌}
use native.Mathlib.Nat.{le_of_eq}
use lib.IntN.{nat_abs}
use mir.Syntax.{w64}
use borrow.Author.Rules.{rules}
use Rattle.integer.specs.Integer.{◌⊗◌}
use Rattle.integer.proofs.Magnitude.{mul_magnitude}
use Rattle.integer_code.proofs.Word.{result_is}
use Rattle.integer_code.proofs.mul.Goals as goal

pub returns-clause-v_value : goal.returns-clause-v_value
unfolding ◌⊗◌
returns-clause-v_value c =
    let a = c.args.a.v in
    let b = c.args.b.v in
    result_is {w = w64} ◌⊗◌ a b (nat_abs a * nat_abs b) (search rules) (search rules) (le_of_eq (mul_magnitude a b)) c.requires
