use Rattle.cqlp_capture_streams.proofs.Gotten.{get_their_bytes}
use Rattle.cqlp_capture_streams.proofs.laws.files_get_their_bytes.Goals as goal

pub returns : goal.returns
returns c = get_their_bytes
