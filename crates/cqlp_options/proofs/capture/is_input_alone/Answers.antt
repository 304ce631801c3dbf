use Rattle.cqlp_options.proofs.Files.{before_a_file, behind_a_file}
use Rattle.cqlp_options.proofs.capture.is_input_alone.Goals as goal

pub returns-then-ne : goal.returns-then-ne
returns-then-ne c =
    behind_a_file c.args.first.now c.args.others.now c.ne.result c.contains.result c.ne.ensures c.if-ne.true c.contains.ensures.value

pub returns-else-ne : goal.returns-else-ne
returns-else-ne c =
    before_a_file c.args.first.now c.args.others.now c.ne.result c.is_empty.result c.ne.ensures c.if-ne.false c.is_empty.ensures c.if-is_empty.false
