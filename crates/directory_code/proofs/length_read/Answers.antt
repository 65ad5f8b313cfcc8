use mathlib.Core.Path.{sym, ◌∙◌}
use borrow.Author.Tests.{not-true, not-false}
use Rattle.directory_code.proofs.Finding.{read_written, read_there, read_found}
use Rattle.directory_code.proofs.length_read.Goals as goal
use Rattle.directory_code.proofs.length_read.Goals.{then-not-f-via-then-not-f, then-not-f-via-else-not-f+then-ne}

pub returns-then-not-f : goal.returns-then-not-f
returns-then-not-f g c =
    let s = c.args in
    let ws = g.W.Words.words s.words in
    elim c.then-not-f.branch [
      | then-not-f-via-then-not-f w ↦ read_written s.f ws s.i c.word_at-len.ensures.v_value (not-true s.f.found w.if-not-f.true)
      | then-not-f-via-else-not-f+then-ne w ↦ read_there s.f ws s.i c.word_at-len.ensures.v_value w.natural.ensures (sym w.ne.ensures ∙ w.if-ne.true)
    ]

pub returns : goal.returns
returns g c =
    let s = c.args in
    let ws = g.W.Words.words s.words in
    c.sub.ensures.v_value
    ∙ read_found s.f ws s.i c.word_at-len.ensures.v_value c.natural.ensures (not-false s.f.found c.if-not-f.false) (sym c.ne.ensures ∙ c.if-ne.false) c.next_offset.ensures.v_value c.word_at-from.ensures.v_value
