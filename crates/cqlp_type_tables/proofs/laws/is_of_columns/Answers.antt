use Rattle.cqlp_type_tables.proofs.TableLaws.{is_of_columns}
use Rattle.cqlp_type_tables.proofs.laws.is_of_columns.Goals as goal

pub returns : goal.returns
returns c = is_of_columns
