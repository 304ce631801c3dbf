use Rattle.cqlp_json.proofs.Blocks.{plain_block}
use Rattle.cqlp_json.proofs.string.is_plain_block.Goals as goal

pub returns : goal.returns
returns c = plain_block c.args.bytes.now c.args.at c.none_below.result c.lacks.result c.lacks-2.result c.lacks-3.result c.lacks-4.result c.none_below.ensures c.lacks.ensures c.lacks-2.ensures c.lacks-3.ensures c.lacks-4.ensures
