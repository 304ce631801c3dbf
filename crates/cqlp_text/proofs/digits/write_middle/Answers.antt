use Rattle.std.proofs.Common.{◌+◌, ◌/◌, ◌%◌, ◌++◌, drop, decimal, sym, ap, ◌∙◌, arith}
use Rattle.std.proofs.lemmas.Fmt.{length-decimal-le}
use Rattle.itoa.proofs.Decimal.{length_four}
use Rattle.cqlp_text.specs.CellText.{digits}
use Rattle.cqlp_text.proofs.Numbers.{decimal_then_four}
use Rattle.cqlp_text.proofs.Placed.{then_placed}
use Rattle.cqlp_text.proofs.digits.write_middle.Goals as goal

pub write_four-requires-clause-room : goal.write_four-requires-clause-room
write_four-requires-clause-room c =
    let n = c.args.number in
    omega (arith, c.write_short-len.ensures.len, length_four n c.if-number-lt10000.false c.ranges.number.fits, length-decimal-le 20 n (omega arith) (omega arith) c.ranges.number.fits)

pub returns-clause-len : goal.returns-clause-len
returns-clause-len c = omega (arith, c.write_short-len.ensures.len, length_four c.args.number c.if-number-lt10000.false c.ranges.number.fits)

pub returns-clause-written : goal.returns-clause-written
returns-clause-written c =
    let n = c.args.number in
    let len = c.write_short-len.result in
    let first = c.write_short-len.ensures in
    then_placed c.args.room.now c.write_short-len.new.room c.write_four.new.room (decimal (n / 10000)) (digits 4 (n % 10000)) len 4 first.len first.written c.write_four.ensures
    ∙ ap (λ t. t ++ drop (len + 4) c.args.room.now) (sym (decimal_then_four n c.if-number-lt10000.false c.ranges.number.fits))
