use Rattle.std.specs.Prelude.{None}
use mathlib.Core.Path.{◌≡◌, sym, ap, ◌∙◌}
use native.Mathlib.Omega.{arith}
use Rattle.files.specs.Pairs.{amount_of}
use Rattle.files.proofs.Walk.{directory_empty, directory_none, directory_some, count_read, count_is}
use Rattle.directory_code.proofs.directory.Goals as goal

pub returns-then-size-eq0 : goal.returns-then-size-eq0
returns-then-size-eq0 g c =
    directory_empty c.args.f (g.W.Words.words c.args.words) (g.met.W.Words.all c.args.words ∙ sym c.size-size.ensures.value ∙ c.if-size-eq0.true)

pub returns-in_default : goal.returns-in_default
returns-in_default g c =
    let ws = g.W.Words.words c.args.words in
    let k = count_read c.args.f ws c.word_at.ensures.v_value (g.met.W.Words.all c.args.words ∙ sym c.size-size.ensures.value) in
    directory_none c.args.f ws (k ∙ sym c.count_of.ensures ∙ (let e : c.count_of.result ≡ None = cc in e))

pub pairs-requires : goal.pairs-requires
pairs-requires g c =
    let ws = g.W.Words.words c.args.words in
    let a = g.met.W.Words.all c.args.words in
    let h = count_is c.args.f ws (count_read c.args.f ws c.word_at.ensures.v_value (a ∙ sym c.size-size.ensures.value) ∙ sym c.count_of.ensures ∙ c.in-Some.is) in
    (c.requires, record { is = ap amount_of h.0.is; few = omega (arith, h.0.high, c.requires.count); complete = omega (arith, h.1, a) })

pub returns : goal.returns
returns g c =
    let ws = g.W.Words.words c.args.words in
    let k = count_read c.args.f ws c.word_at.ensures.v_value (g.met.W.Words.all c.args.words ∙ sym c.size-size.ensures.value) in
    c.pairs.ensures ∙ directory_some c.args.f ws (k ∙ sym c.count_of.ensures ∙ c.in-Some.is)
