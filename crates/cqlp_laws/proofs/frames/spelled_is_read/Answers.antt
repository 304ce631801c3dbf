use Rattle.cqlp_laws.proofs.FramesRead.{spelled_is_read, spelled_with_gifts}
use Rattle.cqlp_laws.proofs.frames.spelled_is_read.Goals as goal

pub returns-clause-stream : goal.returns-clause-stream
returns-clause-stream c = spelled_is_read

pub returns-clause-with_gifts : goal.returns-clause-with_gifts
returns-clause-with_gifts c = spelled_with_gifts
