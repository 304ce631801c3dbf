use Rattle.std.proofs.Common.{◌+◌, ◌/◌, ◌%◌, ◌++◌, drop, length, decimal, sym, ap, ◌≡◌, ◌∙◌, arith, length-append}
use Rattle.std.proofs.lemmas.Fmt.{length-decimal-le}
use Rattle.cqlp_text.specs.CellText.{digits}
use Rattle.cqlp_text.proofs.Numbers.{decimal_then_eight, length_eight}
use Rattle.cqlp_text.proofs.Placed.{then_placed}
use Rattle.cqlp_text.proofs.digits.+write_long.Goals as goal

pub write_long-len-requires : goal.write_long-len-requires
write_long-len-requires t c = omega (arith, c.decreases, c.if-number-lt100000000.false)

pub write_four-requires-clause-room : goal.write_four-requires-clause-room
write_four-requires-clause-room t c =
    let n = c.args.number in
    omega (arith, c.write_long-len.ensures.len, length_eight n c.if-number-lt100000000.false c.ranges.number.fits, length-decimal-le 20 n (omega arith) (omega arith) c.ranges.number.fits)

pub write_four-requires-2-clause-room : goal.write_four-requires-2-clause-room
write_four-requires-2-clause-room t c =
    let n = c.args.number in
    omega (arith, c.write_long-len.ensures.len, length_eight n c.if-number-lt100000000.false c.ranges.number.fits, length-decimal-le 20 n (omega arith) (omega arith) c.ranges.number.fits)

pub returns-clause-len : goal.returns-clause-len
returns-clause-len t c = omega (arith, c.write_long-len.ensures.len, length_eight c.args.number c.if-number-lt100000000.false c.ranges.number.fits)

pub returns-clause-written : goal.returns-clause-written
returns-clause-written t c =
    let n = c.args.number in
    let len = c.write_long-len.result in
    let first = c.write_long-len.ensures in
    let front = decimal (n / 10000 / 10000) in
    let middle = digits 4 (n / 10000 % 10000) in
    let last = digits 4 (n % 10000) in
    let second = then_placed c.args.room.now c.write_long-len.new.room c.write_four.new.room front middle len 4 first.len first.written c.write_four.ensures in
    let long : len + 4 ≡ length (front ++ middle) = omega (arith, first.len, length-append front middle) in
    let all : len + 4 + 4 ≡ len + 8 = omega arith in
    then_placed c.args.room.now c.write_four.new.room c.write_four-2.new.room (front ++ middle) last (len + 4) 4 long second c.write_four-2.ensures
    ∙ ap (λ t. t ++ drop (len + 4 + 4) c.args.room.now) (sym (decimal_then_eight n c.if-number-lt100000000.false c.ranges.number.fits))
    ∙ ap (λ k. decimal n ++ drop k c.args.room.now) all
