use Rattle.cqlp_text.proofs.Placed.{two_in_front, three_in_front}
use Rattle.cqlp_text.proofs.digits.copy_to_front.Goals as goal

pub returns-in-len2 : goal.returns-in-len2
returns-in-len2 c = two_in_front c.args.bytes.now c.args.room.now c.in-len2.len_at_least c.in-len2.len_below c.requires

pub returns-in-len3 : goal.returns-in-len3
returns-in-len3 c = three_in_front c.args.bytes.now c.args.room.now c.in-len3.len_at_least c.in-len3.len_below c.requires
