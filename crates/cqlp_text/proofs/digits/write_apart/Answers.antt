use Rattle.std.proofs.Common.{decimal}
use Rattle.cqlp_text.proofs.Placed.{copied}
use Rattle.cqlp_text.proofs.digits.write_apart.Goals as goal

pub returns-clause-written : goal.returns-clause-written
returns-clause-written c =
    let first = c.write_number-len.ensures in
    copied c.args.bytes.now c.write_number-len.new.room c.copy_to_front.new.room (decimal c.args.number) _ c.write_number-len.result first.len first.written c.copy_to_front.ensures
