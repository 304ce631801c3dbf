use Rattle.cqlp_message.proofs.Walks.{◌then◌}
use Rattle.cqlp_message.proofs.request_parts.QueryParamsHasParts.walk.Goals as goal

pub returns : goal.returns
returns g c =
    c.take.ensures then c.take-2.ensures then c.walk_values.ensures then c.walk_page_size.ensures then c.walk_paging.ensures
    then c.walk_serial.ensures then c.walk_timestamp.ensures
