use Rattle.cqlp_encode.proofs.Taking.{flushed_keeps, flushed_then}
use Rattle.cqlp_encode.proofs.staged.Staged.put_after_flush.Goals as goal

pub returns-then-bytes-gt-ROOM : goal.returns-then-bytes-gt-ROOM
returns-then-bytes-gt-ROOM g c = flushed_then _ _ _ _ c.flush.ensures c.pass_on.ensures

pub returns-else-bytes-gt-ROOM : goal.returns-else-bytes-gt-ROOM
returns-else-bytes-gt-ROOM g c = flushed_keeps _ _ _ _ c.flush.ensures c.requires c.keep.ensures
