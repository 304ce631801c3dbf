use Rattle.std.proofs.Common.{decimal, arith}
use Rattle.cqlp_text.specs.PageText.{item_text}
use Rattle.cqlp_text.proofs.ItemText.{in_tail}
use Rattle.cqlp_text.proofs.items.place_item.Goals as goal

pub returns-clause-placed : goal.returns-clause-placed
returns-clause-placed c =
    in_tail c.args.buffer.now c.write_item_to_front.new.bytes (item_text c.args.gap (decimal c.args.number) c.args.ends_line) c.args.at c.write_item_to_front.result (omega (arith, c.requires.room)) c.write_item_to_front.ensures.written
