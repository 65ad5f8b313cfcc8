use Rattle.std.proofs.Common.{ℕ, refl, ◌∙◌, arith, rules, tests}
use Rattle.std.proofs.lemmas.Iterator.{YieldsList-from_range}
use Rattle.std.proofs.lemmas.Iterator.Search.{all_from_yields_List}
use Rattle.boxes_code.specs.Code.{box_at}
use Rattle.enclosure_code.specs.Code.{disjoint_from, all_disjoint}
use Rattle.enclosure_code.proofs.Numbers.{all_range}
use Rattle.enclosure_code.proofs.all_disjoint.Goals as goal

pub returns : goal.returns
unfolding all_disjoint
returns c =
    let a = c.args in
    let test = λ (i : ℕ). disjoint_from (box_at a.first_boxes.now i) a.second_boxes.now a.n in
    all_from_yields_List test _ _ _ c.all.ensures.ran (YieldsList-from_range 0 a.m a.m refl (omega arith)) (λ x b q k. search (rules, tests)) ∙ all_range test a.m
