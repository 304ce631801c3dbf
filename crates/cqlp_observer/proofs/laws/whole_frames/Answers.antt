use Rattle.cqlp_observer.proofs.Came.{reports_whole}
use Rattle.cqlp_observer.proofs.laws.whole_frames.Goals as goal

pub returns : goal.returns
returns c = reports_whole
