use Rattle.cqlp_c.proofs.Gathering.{put_there}
use Rattle.cqlp_c.proofs.batch.put_gathered.Goals as goal

pub returns : goal.returns
returns c = rw (c.held_address-slot.ensures, c.scale_len.ensures) (put_there c.args.decoder.now c.args.slot.now)
