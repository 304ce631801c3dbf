use Rattle.std.proofs.lemmas.List.{map-id}
use Rattle.cqlp_type_tables.proofs.making.table_of.Goals as goal

pub returns : goal.returns
returns g c = rw map-id at c.make.ensures
