use Rattle.cqlp_text.specs.PageText.{gap_text}
use Rattle.cqlp_text.proofs.ItemText.{gap_written}
use Rattle.cqlp_text.proofs.items.write_gap.Goals as goal

pub returns-clause-written : goal.returns-clause-written
returns-clause-written c = gap_written c.copy_to_front.new.room c.padded.result c.args.room.now (gap_text c.args.gap) c.len.result _ c.len.ensures c.padded.ensures c.copy_to_front.ensures
