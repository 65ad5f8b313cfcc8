use mathlib.Core.List.{[], ◌∷◌}
use native.Mathlib.Omega.{arith}
use lib.ListN.{length}
use Rattle.boolean.specs.Operations.{minus_all}
use Rattle.boolean.specs.Space.{addition, one_stages}
use Rattle.remainder_code.specs.Code.{from, overlays_of_one}
use Rattle.remainder_code.proofs.Answers.{folded_within, within_least}
use Rattle.remainder_code.proofs.One.{one_whole, folded_long, one_start}
use Rattle.difference_code.proofs.one_in_turn.Goals as goal

pub returns-then-count-eq0 : goal.returns-then-count-eq0
returns-then-count-eq0 c =
    let a = c.args in
    let w = c.add_whole in
    let t = w.new.out in
    let n = length a.out.now in
    record {
      one_written = one_start n a.room a.a.shape a.layer.now w.result t (one_whole n a.room a.a.shape a.layer.now 0 w.result t (omega (arith, c.if-count-eq0.true)) w.ensures);
      overlays_within = within_least 1 overlays_of_one w.result (omega arith) (folded_within n a.room (a.a.shape ∷ []) (addition 1 ∷ []) w.result t w.ensures);
      blank = c.requires.scratch_for.0;
    }

pub returns : goal.returns
returns c =
    let a = c.args in
    let f = c.one_rest in
    let k = c.first_into-f in
    let n = length a.out.now in
    let bs = from a.layer.now 0 in
    let s = folded_long (length k.new.out) n a.room (minus_all (a.a.shape ∷ []) bs) (one_stages 0 a.a.shape bs) f.result f.new.out k.auto.out f.ensures.one_written in
    record { one_written = one_start n a.room a.a.shape a.layer.now f.result f.new.out s; overlays_within = f.ensures.overlays_within; blank = f.ensures.blank }
