use Rattle.cqlp_laws.proofs.FramesSpelled.{frames_spelled, frames_with_gifts}
use Rattle.cqlp_laws.proofs.frames.read_is_spelled.Goals as goal

pub returns-clause-stream : goal.returns-clause-stream
returns-clause-stream c = frames_spelled

pub returns-clause-with_gifts : goal.returns-clause-with_gifts
returns-clause-with_gifts c = frames_with_gifts
