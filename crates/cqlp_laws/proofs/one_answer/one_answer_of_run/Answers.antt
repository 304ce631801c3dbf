use Rattle.cqlp_laws.proofs.OneRun.{one_run}
use Rattle.cqlp_laws.proofs.one_answer.one_answer_of_run.Goals as goal

pub returns : goal.returns
returns g c = one_run g.S.Sink.after g.S.Sink.faulted
