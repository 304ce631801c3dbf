use Rattle.cqlp_json.proofs.ReadBack.{reads_back}
use Rattle.cqlp_json.proofs.laws.strings_read_back.Goals as goal

pub returns : goal.returns
returns c = reads_back
