use Rattle.std.proofs.Common.{arith}
use Rattle.cqlp_read_value.proofs.Refusals.{count_short, count_negative, count_front}
use Rattle.cqlp_read_value.proofs.front.front_count.Goals as goal

pub returns-then-content-lt4 : goal.returns-then-content-lt4
returns-then-content-lt4 c l = rw c.refused.ensures (λ k ts counted. count_short l c.args.at k ts c.args.content.now counted c.if-content-lt4.true)

pub returns-then-count : goal.returns-then-count
returns-then-count c l = rw c.refused-then-count.ensures (λ k ts counted. count_negative l c.args.at c.front_number-count.result k ts c.args.content.now counted c.front_number-count.ensures c.if-content-lt4.false (omega arith))

pub returns : goal.returns
returns c l = (c.if-content-lt4.false, count_front c.front_number-count.result c.args.content.now c.front_number-count.ensures (omega arith))
