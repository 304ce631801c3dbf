use Rattle.cqlp_type_tables.proofs.TableLaws.{is_as_read}
use Rattle.cqlp_type_tables.proofs.laws.is_as_read.Goals as goal

pub returns : goal.returns
returns c = is_as_read
