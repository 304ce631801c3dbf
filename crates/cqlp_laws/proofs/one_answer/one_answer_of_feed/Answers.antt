use Rattle.cqlp_laws.proofs.OneFeed.{one_answer}
use Rattle.cqlp_laws.proofs.one_answer.one_answer_of_feed.Goals as goal

pub returns : goal.returns
returns g c = one_answer g.S.Sink.after g.S.Sink.faulted
