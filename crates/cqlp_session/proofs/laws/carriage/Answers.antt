use Rattle.cqlp_session.proofs.Carriages.{values_come_back}
use Rattle.cqlp_session.proofs.Services.{each_answer}
use Rattle.cqlp_session.proofs.laws.carriage.Goals as goal

pub returns-clause-client : goal.returns-clause-client
returns-clause-client g c = values_come_back _

pub returns-clause-server : goal.returns-clause-server
returns-clause-server g c = each_answer _
