use Rattle.std.proofs.Common.{decimal, arith}
use Rattle.std.proofs.lemmas.Fmt.{length-decimal-le}
use Rattle.cqlp_text.proofs.Placed.{chunk_written}
use Rattle.cqlp_text.proofs.digits.write_short_to_front.Goals as goal

pub returns-in-Some-clause-written : goal.returns-in-Some-clause-written
returns-in-Some-clause-written c =
    let n = c.args.number in
    let w = c.write_middle.ensures in
    chunk_written c.args.bytes.now c.in-Some.room.now c.write_middle.new.room (decimal n) c.write_middle.result 20 (omega (arith, w.len, length-decimal-le 20 n (omega arith) (omega arith) c.ranges.number.fits)) c.in-Some.ensures.cases.enough c.in-Some.ensures.cases.same w.written
