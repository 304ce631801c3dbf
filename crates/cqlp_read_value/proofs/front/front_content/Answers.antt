use Rattle.std.proofs.Common.{take, arith}
use Rattle.cqlp_read_value.proofs.Refusals.{front_short, front_past, null_front, content_front}
use Rattle.cqlp_read_value.proofs.front.front_content.Goals as goal

pub returns-then-bytes-lt4 : goal.returns-then-bytes-lt4
returns-then-bytes-lt4 c l = rw c.refused.ensures (λ k inner. front_short l c.args.at k inner c.args.bytes.now c.if-bytes-lt4.true)

pub returns-then-len : goal.returns-then-len
returns-then-len c l = (c.if-bytes-lt4.false, null_front c.front_number-len.result (take 4 c.args.bytes.now) c.front_number-len.ensures (omega arith))

pub returns-then-bytes-len : goal.returns-then-bytes-len
returns-then-bytes-len c l = rw c.refused-then-bytes-len.ensures (λ k inner. front_past l c.args.at c.front_number-len.result k inner c.args.bytes.now c.front_number-len.ensures (omega arith) (omega arith))

pub returns : goal.returns
returns c l = content_front c.front_number-len.result c.args.bytes.now c.front_number-len.ensures (omega arith) (omega arith)
