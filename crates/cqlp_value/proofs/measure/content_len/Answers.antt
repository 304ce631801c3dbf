use Rattle.std.proofs.Common.{arith}
use Rattle.cqlp_value.proofs.ValueSizes.{some_size}
use Rattle.cqlp_value.proofs.measure.content_len.Goals as goal

pub overflow_sub-result : goal.overflow_sub-result
overflow_sub-result c = omega (arith, some_size c.args.value.now)

pub returns : goal.returns
returns c = omega (arith, some_size c.args.value.now)
