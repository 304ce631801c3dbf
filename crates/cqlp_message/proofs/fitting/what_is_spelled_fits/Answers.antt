use Rattle.cqlp_message.proofs.FramesWritten.{frame_fits}
use Rattle.cqlp_message.proofs.fitting.what_is_spelled_fits.Goals as goal

pub returns : goal.returns
returns c = frame_fits
