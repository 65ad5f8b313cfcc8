use Rattle.std.proofs.Common.{◌∙◌, rules}
use borrow.Author.Tests.{tests}
use Rattle.std.proofs.lemmas.Iterator.{YieldsList-from_slice}
use Rattle.std.proofs.lemmas.Iterator.Consumers.{YieldsList-from_filter, YieldsList-from_enumerate, count_from_yields_List}
use Rattle.connectivity_code.proofs.Loops.{is_own, own_all}
use Rattle.connectivity_code.proofs.count_own.Goals as goal

pub returns-clause-value : goal.returns-clause-value
returns-clause-value c =
    let ns = c.args.numbers.now in
    count_from_yields_List c.filter.result _ c.count.ensures.ran (YieldsList-from_filter _ is_own (YieldsList-from_enumerate (YieldsList-from_slice ns (cc)) (cc)) c.filter.ensures.closure (λ x b q k. search (rules, tests))) ∙ own_all ns
