use Rattle.std.proofs.Common.{decimal}
use Rattle.cqlp_text.proofs.Placed.{tail_placed}
use Rattle.cqlp_text.proofs.digits.place_short.Goals as goal

pub returns-clause-placed : goal.returns-clause-placed
returns-clause-placed c = tail_placed c.args.room.now c.write_short_to_front.new.bytes (decimal c.args.number) c.args.at c.write_short_to_front.result c.write_short_to_front.ensures.written
