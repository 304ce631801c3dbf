use Rattle.cqlp_capture.proofs.Tests.{in_range}
use Rattle.cqlp_capture.proofs.Whole.{few_events, few_handed_out}
use Rattle.cqlp_capture.proofs.laws.no_more_events_than_bytes.Goals as goal

pub returns-clause-file : goal.returns-clause-file
returns-clause-file c = λ l bytes es v range said. few_events l (in_range l range) bytes es said.0 said.1 said.2

pub returns-clause-reader : goal.returns-clause-reader
returns-clause-reader c = λ d s es range after. few_handed_out d s es (in_range d.limits range) after
