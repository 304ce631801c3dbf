use Rattle.cqlp_encode.proofs.Taking.{keeps}
use Rattle.cqlp_encode.proofs.staged.Staged.put.Goals as goal

pub returns-else-self-bytes-gt-ROOM : goal.returns-else-self-bytes-gt-ROOM
returns-else-self-bytes-gt-ROOM g c = rw c.keep.ensures (keeps _ _)
