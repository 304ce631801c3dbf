use Rattle.cqlp_encode.proofs.Taking.{keeps}
use Rattle.cqlp_encode.proofs.staged.Staged.put_few.Goals as goal

pub returns-else-self-bytes : goal.returns-else-self-bytes
returns-else-self-bytes g c = rw c.keep.ensures (keeps _ _)
