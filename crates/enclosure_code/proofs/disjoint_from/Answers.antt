use Rattle.std.proofs.Common.{ℕ, refl, ◌∙◌, arith, rules, tests}
use Rattle.std.proofs.lemmas.Iterator.{YieldsList-from_range}
use Rattle.std.proofs.lemmas.Iterator.Search.{all_from_yields_List}
use Rattle.boxes.specs.Boxes.{boxes_disjoint}
use Rattle.boxes_code.specs.Code.{box_at}
use Rattle.enclosure_code.specs.Code.{disjoint_from}
use Rattle.enclosure_code.proofs.Numbers.{all_range}
use Rattle.enclosure_code.proofs.disjoint_from.Goals as goal

pub returns : goal.returns
unfolding disjoint_from
returns c =
    let a = c.args in
    let test = λ (j : ℕ). boxes_disjoint a.e (box_at a.boxes.now j) in
    all_from_yields_List test _ _ _ c.all.ensures.ran (YieldsList-from_range 0 a.n a.n refl (omega arith)) (λ x b q k. search (rules, tests)) ∙ all_range test a.n
