use Rattle.cqlp_session.proofs.Bits.{bit_clear}
use Rattle.cqlp_session.proofs.stream_ids.clear.Goals as goal

pub returns : goal.returns
returns c = bit_clear c.args.words.now c.args.place c.requires
