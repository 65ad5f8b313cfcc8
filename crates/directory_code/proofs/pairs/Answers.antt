use Rattle.std.specs.Prelude.{None}
use mathlib.Core.Path.{◌≡◌, sym, ◌∙◌, ap}
use native.Mathlib.Omega.{arith}
use Rattle.files.specs.Directory.{end_of}
use Rattle.files.proofs.Walk.{pair}
use Rattle.directory_code.proofs.Walking.{walk_turn, walk_wrong, walk_end}
use Rattle.directory_code.proofs.pairs.Goals as goal

pub returns-in_default : goal.returns-in_default
returns-in_default g c =
    let h = c.loop-i.invariant in
    walk_wrong h c.loop-i-test.true c.word_at-offset.ensures.v_value c.length_read-len.ensures (sym c.pair_length.ensures ∙ (let e : c.pair_length.result ≡ None = cc in e))

pub overflow_add-total : goal.overflow_add-total
overflow_add-total g c =
    let u = (pair _ _ _ _ (sym c.pair_length.ensures ∙ c.in-Some.is)).total in
    record { fits = omega arith }

pub loop-i-preserved : goal.loop-i-preserved
loop-i-preserved g c =
    walk_turn c.loop-i.invariant c.loop-i-test.true c.word_at-offset.ensures.v_value c.length_read-len.ensures (sym c.pair_length.ensures ∙ c.in-Some.is)

pub returns : goal.returns
returns g c =
    let s = c.args in
    c.end_of.ensures ∙ ap (end_of s.f s.n c.loop-i.total) (c.size.ensures.value ∙ sym (g.met.W.Words.all s.words)) ∙ walk_end c.loop-i.invariant c.loop-i-test.false
