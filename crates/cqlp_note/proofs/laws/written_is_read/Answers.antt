use Rattle.cqlp_note.proofs.Written as written
use Rattle.cqlp_note.proofs.laws.written_is_read.Goals as goal

pub returns : goal.returns
returns c = λ h lawful fits. written.written_is_read h lawful fits
