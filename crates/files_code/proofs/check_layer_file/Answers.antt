use mathlib.Core.Path.{sym, ◌∙◌}
use Rattle.files.specs.Rows.{layer_file_checked}
use Rattle.files_code.proofs.check_layer_file.Goals as goal

pub returns-then-not-file_sized : goal.returns-then-not-file_sized
unfolding layer_file_checked
returns-then-not-file_sized c = rw (sym c.file_sized.ensures ∙ c.if-not-file_sized.true)

pub returns : goal.returns
unfolding layer_file_checked
returns c = c.file_layers.ensures ∙ rw (sym c.file_sized.ensures ∙ c.if-not-file_sized.false)
