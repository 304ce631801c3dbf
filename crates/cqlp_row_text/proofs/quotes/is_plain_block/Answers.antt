use Rattle.cqlp_row_text.proofs.Doubles.{plain_block}
use Rattle.cqlp_row_text.proofs.quotes.is_plain_block.Goals as goal

pub returns : goal.returns
returns c = plain_block c.args.a c.args.b c.args.bytes.now c.args.at c.lacks.result c.lacks-2.result c.lacks.ensures c.lacks-2.ensures
