use Rattle.cqlp_decode.proofs.Within.{content_within}
use Rattle.cqlp_laws.proofs.reading.content_lies_in_its_step.Goals as goal

pub returns : goal.returns
returns c = content_within
