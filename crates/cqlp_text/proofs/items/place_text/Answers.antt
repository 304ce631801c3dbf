use Rattle.std.proofs.Common.{arith}
use Rattle.cqlp_text.specs.PageText.{item_text}
use Rattle.cqlp_text.specs.Text.{between_quotes}
use Rattle.cqlp_text.proofs.ItemText.{in_tail}
use Rattle.cqlp_text.proofs.items.place_text.Goals as goal

pub returns-clause-placed : goal.returns-clause-placed
returns-clause-placed c =
    in_tail c.args.buffer.now c.write_text.new.room (item_text c.args.gap (between_quotes c.args.text.now) c.args.ends_line) c.args.at c.write_text.result (omega (arith, c.requires)) c.write_text.ensures.written
