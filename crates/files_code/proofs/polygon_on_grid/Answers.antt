use mathlib.Core.Path.{refl, ◌∙◌}
use Prim.Native.Nat.{ℕ, ◌-◌}
use borrow.Author.Rules.{rules}
use Rattle.std.proofs.Common.{tests}
use Rattle.std.proofs.lemmas.Iterator.{YieldsList-from_range}
use Rattle.std.proofs.lemmas.Iterator.Search.{all_from_yields_List}
use Rattle.records.specs.Records.{record_at}
use Rattle.geometry.specs.Polygons.{vertex_on_grid}
use Rattle.files.specs.Formats.{file_words}
use Rattle.files.specs.Contents.{vertex_codec}
use Rattle.files_code.proofs.Passing.{all_range}
use Rattle.files_code.proofs.polygon_on_grid.Goals as goal

pub returns : goal.returns
returns c =
    let x = c.args in
    let ws = file_words x.body.now in
    all_from_yields_List (λ (i : ℕ). vertex_on_grid x.limit (record_at vertex_codec ws i)) _ _ _ c.all.ensures.ran (YieldsList-from_range x.from x.to (x.to - x.from) refl refl) (λ i b q k. search (rules, tests))
    ∙ all_range (vertex_on_grid x.limit) ws (x.to - x.from) x.from
