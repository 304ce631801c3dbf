use Rattle.std.proofs.Common.{◌+◌, ◌≤◌, length, decimal, arith}
use Rattle.std.proofs.lemmas.Fmt.{length-decimal-le}
use Rattle.cqlp_text.specs.PageText.{gap_text, line_end}
use Rattle.cqlp_text.proofs.ItemText.{gap_short, item_len, item_written}
use Rattle.cqlp_text.proofs.items.write_item.Goals as goal

pub place_in_line-len-requires : goal.place_in_line-len-requires
place_in_line-len-requires c =
    let n = c.args.number in
    omega (arith, c.write_gap-front.ensures.len, c.write_gap-front.auto.room, c.told-room, gap_short c.args.gap, length-decimal-le 20 n (omega arith) (omega arith) c.ranges.number.fits)

pub write_line_end-requires : goal.write_line_end-requires
write_line_end-requires c =
    let n = c.args.number in
    omega (arith, c.write_gap-front.ensures.len, c.write_gap-front.auto.room, c.place_in_line-len.auto.room, c.place_in_line-len.ensures.len, c.told-room, gap_short c.args.gap, length-decimal-le 20 n (omega arith) (omega arith) c.ranges.number.fits)

pub returns-clause-len : goal.returns-clause-len
returns-clause-len c =
    item_len (gap_text c.args.gap) (decimal c.args.number) (line_end c.args.ends_line) _ _ _ c.write_gap-front.ensures.len c.place_in_line-len.ensures.len c.write_line_end.ensures.len

pub returns-clause-written : goal.returns-clause-written
returns-clause-written c =
    let n = c.args.number in
    let fits : c.write_gap-front.result + c.place_in_line-len.result ≤ length c.write_gap-front.new.room = omega (arith, c.write_gap-front.ensures.len, c.write_gap-front.auto.room, c.place_in_line-len.ensures.len, c.told-room, gap_short c.args.gap, length-decimal-le 20 n (omega arith) (omega arith) c.ranges.number.fits) in
    item_written _ c.place_in_line-len.new.room c.write_line_end.new.room (gap_text c.args.gap) (decimal n) (line_end c.args.ends_line) _ _ _ c.place_in_line-len.ensures.len fits c.write_gap-front.ensures.written c.place_in_line-len.ensures.placed c.write_line_end.ensures.written
