use Rattle.cqlp_row_text.proofs.ReadBack.{reads_back}
use Rattle.cqlp_row_text.proofs.laws.fields_read_back.Goals as goal

pub returns : goal.returns
returns c = reads_back
