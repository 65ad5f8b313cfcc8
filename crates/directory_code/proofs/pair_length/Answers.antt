use borrow.Author.Rules.{rules}
use Rattle.files.specs.Directory.{pair_length}
use Rattle.directory_code.proofs.pair_length.Goals as goal

pub returns-in_err-number_from : goal.returns-in_err-number_from
unfolding pair_length
returns-in_err-number_from c = search rules

pub returns-in_err-n : goal.returns-in_err-n
unfolding pair_length
returns-in_err-n c = search rules

pub returns : goal.returns
unfolding pair_length
returns c = search rules
