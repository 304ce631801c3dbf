use Rattle.cqlp_message.proofs.WrittenBytes.{fit_if_spelled}
use Rattle.cqlp_message.proofs.fitting.fit_just_if_spelled.Goals as goal

pub returns : goal.returns
returns c = fit_if_spelled
