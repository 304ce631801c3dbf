use Rattle.cqlp_message.proofs.FramesWritten.{frame_written}
use Rattle.cqlp_message.proofs.fitting.what_fits_is_spelled.Goals as goal

pub returns : goal.returns
returns c = frame_written
