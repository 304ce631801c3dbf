use Rattle.cqlp_text.proofs.ItemText.{one_more}
use Rattle.cqlp_text.proofs.items.write_newline.Goals as goal

pub returns-clause-written : goal.returns-clause-written
returns-clause-written c = one_more c.args.room.now c.args.at 10 c.requires
