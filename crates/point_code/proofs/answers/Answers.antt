-- One test, computed over the whole table, is the rule at each entry.
use Rattle.chains.proofs.Memberships.{answer_table_exact}
use Rattle.point_code.proofs.answers.Goals as goal

pub returns : goal.returns
returns c = (answer_table_exact _).0 tt
