use Rattle.std.proofs.Common.{rules, w64}
use Rattle.std.proofs.lemmas.Int.{to_z-of_z}
use Rattle.cqlp_build.proofs.held.FrameEvents.long.Goals as goal

pub returns : goal.returns
returns c = rw (to_z-of_z w64 c.take.result (search rules)) c.take.ensures.is
