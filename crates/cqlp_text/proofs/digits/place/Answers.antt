use Rattle.std.proofs.Common.{length}
use Rattle.cqlp_text.proofs.Placed.{tail_placed}
use Rattle.cqlp_text.proofs.digits.place.Goals as goal

pub returns : goal.returns
returns c = tail_placed c.args.buffer.now c.copy_to_front.new.room c.args.bytes.now c.args.at (length c.args.bytes.now) c.copy_to_front.ensures
