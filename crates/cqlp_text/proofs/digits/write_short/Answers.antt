use Rattle.std.proofs.Common.{◌/◌, arith}
use Rattle.itoa.proofs.Decimal.{length_pair, length_two}
use Rattle.cqlp_text.proofs.Numbers.{decimal_of_four}
use Rattle.cqlp_text.proofs.digits.write_short.Goals as goal

pub returns-clause-len : goal.returns-clause-len
returns-clause-len c =
    let n = c.args.number in
    omega (arith, length_pair n c.if-number-lt100.false (omega (arith, c.requires)), length_two (n / 100) (omega (arith, c.if-number-lt1000.false)) (omega (arith, c.requires)))

pub returns-clause-written : goal.returns-clause-written
returns-clause-written c = rw (decimal_of_four c.args.number c.if-number-lt1000.false c.requires) c.write_four.ensures
