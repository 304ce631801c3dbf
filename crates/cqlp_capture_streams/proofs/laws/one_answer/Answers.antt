use Rattle.cqlp_capture_streams.proofs.OneAnswer.{streams_once}
use Rattle.cqlp_capture_streams.proofs.laws.one_answer.Goals as goal

pub returns : goal.returns
returns c = streams_once
