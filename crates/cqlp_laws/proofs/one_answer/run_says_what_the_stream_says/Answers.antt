use Rattle.cqlp_laws.proofs.OneRun.{runs_right}
use Rattle.cqlp_laws.proofs.one_answer.run_says_what_the_stream_says.Goals as goal

pub returns : goal.returns
returns g c = runs_right g.S.Sink.after g.S.Sink.faulted
