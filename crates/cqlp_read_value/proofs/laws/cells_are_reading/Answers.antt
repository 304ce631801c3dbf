use Rattle.cqlp_read_value.proofs.CellRuns.{cells_reading}
use Rattle.cqlp_read_value.proofs.laws.cells_are_reading.Goals as goal

pub returns : goal.returns
returns c = cells_reading
