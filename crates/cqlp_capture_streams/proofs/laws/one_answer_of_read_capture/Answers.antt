use Rattle.cqlp_capture_streams.proofs.OneAnswer.{read_once}
use Rattle.cqlp_capture_streams.proofs.laws.one_answer_of_read_capture.Goals as goal

pub returns : goal.returns
returns g c = read_once g.L.Listener.after g.L.Listener.faulted
