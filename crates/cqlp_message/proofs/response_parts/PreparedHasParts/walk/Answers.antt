use Rattle.cqlp_message.proofs.Walks.{◌then◌}
use Rattle.cqlp_message.proofs.response_parts.PreparedHasParts.walk.Goals as goal

pub returns : goal.returns
returns g c = c.walk_statement.ensures then c.walk_columns.ensures then c.walk_keys.ensures then c.walk_specs.ensures then c.walk.ensures
