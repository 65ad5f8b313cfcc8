use borrow.Author.Rules.{rules}
use Rattle.files.specs.Directory.{number_from}
use Rattle.directory_code.proofs.number_from.Goals as goal

pub returns : goal.returns
unfolding number_from
returns c = search rules
