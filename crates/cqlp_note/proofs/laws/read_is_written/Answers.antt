use Rattle.std.proofs.Common.{arith}
use Rattle.cqlp_note.proofs.Written as written
use Rattle.cqlp_note.proofs.laws.read_is_written.Goals as goal

pub returns : goal.returns
returns c = λ h bytes long small s. (written.read_is_lawful bytes h s, written.read_is_written bytes h long (λ i lt. small i 0 (omega (arith, long))) s)
