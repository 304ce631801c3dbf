use Rattle.std.proofs.Common.{refl}
use Rattle.cqlp_text.proofs.Writing.{passes_waiting}
use Rattle.cqlp_text.proofs.buffered.Buffered.flush.Goals as goal

pub returns-clause-writes : goal.returns-clause-writes
returns-clause-writes g c = rw (← c.self.view_is) (passes_waiting _ _ _ _ _ _ _ c.send.result refl (rw c.deref.ensures.value at c.send.ensures))
