use Rattle.cqlp_message.proofs.WrittenBytes.{written_bytes}
use Rattle.cqlp_message.proofs.fitting.written_are_bytes.Goals as goal

pub returns : goal.returns
returns c = written_bytes
