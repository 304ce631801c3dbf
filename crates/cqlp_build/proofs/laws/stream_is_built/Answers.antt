use Rattle.cqlp_build.proofs.Streams.{stream_built}
use Rattle.cqlp_build.proofs.laws.stream_is_built.Goals as goal

pub returns : goal.returns
returns c = λ limits l at fs cut rs new p w a n. stream_built limits l at fs cut rs new p w a n
