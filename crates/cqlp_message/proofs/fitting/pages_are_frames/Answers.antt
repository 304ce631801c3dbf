use Rattle.cqlp_message.proofs.PageFrames.{page_written}
use Rattle.cqlp_message.proofs.fitting.pages_are_frames.Goals as goal

pub returns : goal.returns
returns c = page_written
