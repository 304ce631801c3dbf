use Rattle.cqlp_message.proofs.Walks.{◌then◌}
use Rattle.cqlp_message.proofs.response_parts.MetadataHasParts.walk.Goals as goal

pub returns : goal.returns
returns g c = c.walk_columns.ensures then c.walk_paging.ensures then c.walk_table.ensures then c.walk_specs.ensures
