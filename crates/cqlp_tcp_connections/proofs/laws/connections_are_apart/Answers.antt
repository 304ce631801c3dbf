use Rattle.cqlp_tcp_connections.proofs.Apart.{changes_none, leaves_others}
use Rattle.cqlp_tcp_connections.proofs.laws.connections_are_apart.Goals as goal

pub returns-clause-take : goal.returns-clause-take
returns-clause-take c = changes_none

pub returns-clause-first : goal.returns-clause-first
returns-clause-first c = leaves_others
