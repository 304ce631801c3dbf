use Rattle.cqlp_type.proofs.WholeTables.{are_types, within}
use Rattle.cqlp_type.proofs.laws.whole_tables_are_types.Goals as goal

pub returns-clause-are : goal.returns-clause-are
returns-clause-are c = are_types

pub returns-clause-within : goal.returns-clause-within
returns-clause-within c = within
