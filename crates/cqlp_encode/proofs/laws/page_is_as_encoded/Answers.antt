use Rattle.cqlp_encode.proofs.PageWhole.{as_encoded}
use Rattle.cqlp_encode.proofs.laws.page_is_as_encoded.Goals as goal

pub returns : goal.returns
returns c = as_encoded
