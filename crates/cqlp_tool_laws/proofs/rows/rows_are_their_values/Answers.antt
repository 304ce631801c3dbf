use Rattle.cqlp_tool_laws.proofs.RowTexts.{cell_is_its_value, frame_is_its_values, frames_are_their_values, nesting_is_limited}
use Rattle.cqlp_tool_laws.proofs.rows.rows_are_their_values.Goals as goal

pub returns-clause-cell : goal.returns-clause-cell
returns-clause-cell c = cell_is_its_value

pub returns-clause-frame : goal.returns-clause-frame
returns-clause-frame c = frame_is_its_values

pub returns-clause-frames : goal.returns-clause-frames
returns-clause-frames c = frames_are_their_values

pub returns-clause-nesting : goal.returns-clause-nesting
returns-clause-nesting c = nesting_is_limited
