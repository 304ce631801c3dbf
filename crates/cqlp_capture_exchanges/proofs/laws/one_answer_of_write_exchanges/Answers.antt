use Rattle.cqlp_capture_exchanges.proofs.WrittenOnce.{exchanges_once}
use Rattle.cqlp_capture_exchanges.proofs.laws.one_answer_of_write_exchanges.Goals as goal

pub returns : goal.returns
returns c = exchanges_once
