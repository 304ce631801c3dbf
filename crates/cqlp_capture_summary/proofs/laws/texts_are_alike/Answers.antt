use Rattle.cqlp_capture_summary.proofs.Literals.{texts_are_alike}
use Rattle.cqlp_capture_summary.proofs.laws.texts_are_alike.Goals as goal

pub returns : goal.returns
returns c = texts_are_alike
