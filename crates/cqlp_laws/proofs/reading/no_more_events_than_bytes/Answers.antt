use Rattle.cqlp_laws.proofs.EventCounts.{no_more_events, no_more_handed_out}
use Rattle.cqlp_laws.proofs.reading.no_more_events_than_bytes.Goals as goal

pub returns-clause-stream : goal.returns-clause-stream
returns-clause-stream c = no_more_events

pub returns-clause-decoder : goal.returns-clause-decoder
returns-clause-decoder c = no_more_handed_out
