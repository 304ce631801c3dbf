use Rattle.cqlp_laws.proofs.Heads.{ends_what_is_read}
use Rattle.cqlp_laws.proofs.reading.contents_end_what_is_read.Goals as goal

pub returns : goal.returns
returns c = ends_what_is_read
