use Rattle.cqlp_type.proofs.SpelledRead.{tree_read}
use Rattle.cqlp_type.proofs.laws.spelled_is_read.Goals as goal

pub returns : goal.returns
returns c = tree_read
