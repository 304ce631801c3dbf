use Rattle.cqlp_tool_laws.proofs.RowTexts.{values_are_rendered, values_are_shown}
use Rattle.cqlp_tool_laws.proofs.rows.rows_write_their_values.Goals as goal

pub returns-clause-rendered : goal.returns-clause-rendered
returns-clause-rendered c = values_are_rendered

pub returns-clause-shown : goal.returns-clause-shown
returns-clause-shown c = values_are_shown
