use mathlib.Core.Path.{◌∙◌, ap}
use Rattle.chains.specs.Memberships.{membership_at, table_entry, says_for}
use Rattle.chains.proofs.Memberships.{adds_exact}
use Rattle.point_code.proofs.says.Goals as goal

pub returns : goal.returns
returns c =
    let code = c.args.code in
    let column = c.column_of.result in
    (adds_exact code (membership_at column) (table_entry c.answers.result code column)).0 (c.answers.ensures.adds code column c.requires c.column_of.ensures.0)
    ∙ ap (says_for code) c.column_of.ensures.1
