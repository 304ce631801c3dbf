use Rattle.std.proofs.Common.{decimal}
use Rattle.cqlp_text.specs.PageText.{item_text}
use Rattle.cqlp_text.proofs.ItemText.{in_front}
use Rattle.cqlp_text.proofs.items.write_item_to_front.Goals as goal

pub returns-clause-written : goal.returns-clause-written
returns-clause-written c =
    in_front c.write_item.new.room _ (item_text c.args.gap (decimal c.args.number) c.args.ends_line) c.write_item.result c.write_item.ensures.len c.write_item.ensures.written
