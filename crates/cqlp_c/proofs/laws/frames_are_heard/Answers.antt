use Rattle.cqlp_c.proofs.Cored.{heard}
use Rattle.cqlp_c.proofs.laws.frames_are_heard.Goals as goal

pub returns : goal.returns
returns c = λ at h is. heard at h is
