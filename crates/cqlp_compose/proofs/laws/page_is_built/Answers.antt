use Rattle.cqlp_compose.proofs.Built.{is_page_built}
use Rattle.cqlp_compose.proofs.laws.page_is_built.Goals as goal

pub returns : goal.returns
returns c = λ f n k es bytes g p built ends. is_page_built f n k es bytes g p built ends
