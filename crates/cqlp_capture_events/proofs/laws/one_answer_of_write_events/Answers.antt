use Rattle.cqlp_capture_events.proofs.WrittenOnce.{events_once}
use Rattle.cqlp_capture_events.proofs.laws.one_answer_of_write_events.Goals as goal

pub returns : goal.returns
returns c = events_once
