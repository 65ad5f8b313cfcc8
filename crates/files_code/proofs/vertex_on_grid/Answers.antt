use mathlib.Core.Path.{sym, ◌∙◌}
use Rattle.files.specs.Formats.{file_words}
use Rattle.files_code.proofs.Passing.{vertex_off, vertex_by}
use Rattle.files_code.proofs.vertex_on_grid.Goals as goal

pub returns-then-within : goal.returns-then-within
returns-then-within c =
    let s = c.args in
    c.within-then-within.ensures ∙ vertex_by s.limit (file_words s.body.now) s.i c.word_at.ensures.v_value (sym c.within.ensures ∙ c.if-within.true) c.word_at-then-within.ensures.v_value

pub returns-else-within : goal.returns-else-within
returns-else-within c =
    let s = c.args in
    c.if-within.false ∙ vertex_off s.limit (file_words s.body.now) s.i c.word_at.ensures.v_value (sym c.within.ensures ∙ c.if-within.false)
