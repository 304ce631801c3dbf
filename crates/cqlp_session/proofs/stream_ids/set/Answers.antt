use Rattle.cqlp_session.proofs.Bits.{bit_set}
use Rattle.cqlp_session.proofs.stream_ids.set.Goals as goal

pub returns : goal.returns
returns c = bit_set c.args.words.now c.args.place c.requires
