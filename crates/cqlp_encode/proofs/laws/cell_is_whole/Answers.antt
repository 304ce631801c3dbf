use Rattle.cqlp_encode.proofs.PageRests.{cell_whole}
use Rattle.cqlp_encode.proofs.laws.cell_is_whole.Goals as goal

pub returns : goal.returns
returns c = cell_whole
