use borrow.Author.Rules.{rules}
use Rattle.files.specs.Directory.{end_of}
use Rattle.directory_code.proofs.end_of.Goals as goal

pub returns-then-n-f : goal.returns-then-n-f
unfolding end_of
returns-then-n-f c = search rules

pub returns-else-n-f : goal.returns-else-n-f
unfolding end_of
returns-else-n-f c = search rules
