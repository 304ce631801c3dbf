use Rattle.cqlp_compose.proofs.Written.{page_is_written}
use Rattle.cqlp_compose.proofs.laws.page_is_written.Goals as goal

pub returns : goal.returns
returns c = λ s h fields rows len b bs end first begins batches ended. page_is_written s h fields rows len b bs end first begins batches ended
