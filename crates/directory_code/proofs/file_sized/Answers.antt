use borrow.Author.Rules.{rules}
use Rattle.files.specs.Formats.{file_sized}
use Rattle.directory_code.proofs.file_sized.Goals as goal

pub returns-then-n-ge4 : goal.returns-then-n-ge4
unfolding file_sized
returns-then-n-ge4 c = search rules

pub returns-else-n-ge4 : goal.returns-else-n-ge4
unfolding file_sized
returns-else-n-ge4 c = search rules
