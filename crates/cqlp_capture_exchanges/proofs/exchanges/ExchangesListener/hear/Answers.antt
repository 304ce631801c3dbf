use Rattle.cqlp_capture_streams.specs.ConnectionEvents.{connection_event_of}
use Rattle.cqlp_capture_exchanges.proofs.Heard.{reports_what_it_heard}
use Rattle.cqlp_capture_exchanges.proofs.exchanges.ExchangesListener.hear.Goals as goal

pub returns-clause-ok : goal.returns-clause-ok
returns-clause-ok g c = reports_what_it_heard c.args.self.now c.take.new.self (connection_event_of c.args.event.now) c.take.result c.take.ensures
