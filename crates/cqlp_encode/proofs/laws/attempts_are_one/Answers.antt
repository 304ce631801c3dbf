use Rattle.cqlp_encode.proofs.Attempts.{attempts_are_one}
use Rattle.cqlp_encode.proofs.laws.attempts_are_one.Goals as goal

pub returns : goal.returns
returns c = attempts_are_one
