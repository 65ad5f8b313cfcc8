use borrow.Author.Rules.{rules}
use Rattle.case_parts.specs.Code.{square}
use Rattle.case_parts.proofs.square.Goals as goal

pub returns : goal.returns
unfolding square
returns c = search rules
