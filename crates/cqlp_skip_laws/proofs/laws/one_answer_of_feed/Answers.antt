use Rattle.cqlp_skip_laws.proofs.Once.{one_answer}
use Rattle.cqlp_skip_laws.proofs.laws.one_answer_of_feed.Goals as goal

pub returns : goal.returns
returns g c = one_answer g.S.Sink.after g.S.Sink.faulted
