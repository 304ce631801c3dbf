use Rattle.std.proofs.Common.{◌+◌, ◌/◌, ◌%◌, sym, arith}
use Rattle.std.proofs.lemmas.Fmt.{decimal_digit}
use Rattle.itoa.proofs.Decimal.{length_one, decimal_two, length_two}
use Rattle.cqlp_text.proofs.Placed.{front_one, front_two}
use Rattle.cqlp_text.proofs.digits.write_front.Goals as goal

pub returns-then-number-lt10-clause-len : goal.returns-then-number-lt10-clause-len
returns-then-number-lt10-clause-len c = sym (length_one c.args.number c.if-number-lt10.true)

pub returns-then-number-lt10-clause-written : goal.returns-then-number-lt10-clause-written
returns-then-number-lt10-clause-written c =
    rw (decimal_digit c.args.number c.if-number-lt10.true) (front_one c.args.room.now (48 + c.args.number) (omega (arith, c.told-room)))

pub returns-clause-len : goal.returns-clause-len
returns-clause-len c = sym (length_two c.args.number c.if-number-lt10.false c.requires)

pub returns-clause-written : goal.returns-clause-written
returns-clause-written c =
    let n = c.args.number in
    rw (c.pair.ensures, decimal_two n c.if-number-lt10.false c.requires) (front_two c.args.room.now (48 + n / 10) (48 + n % 10) (omega (arith, c.told-room)))
