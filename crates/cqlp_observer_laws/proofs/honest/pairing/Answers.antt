use Rattle.cqlp_observer_laws.proofs.AtClient.{pairs_at_client}
use Rattle.cqlp_observer_laws.proofs.AtServer.{pairs_at_server}
use Rattle.cqlp_observer_laws.proofs.honest.pairing.Goals as goal

pub returns-clause-client : goal.returns-clause-client
returns-clause-client c = pairs_at_client

pub returns-clause-server : goal.returns-clause-server
returns-clause-server c = pairs_at_server
