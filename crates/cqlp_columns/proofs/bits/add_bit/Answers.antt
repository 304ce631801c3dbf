use Rattle.std.proofs.Common.{arith}
use Rattle.cqlp_columns.proofs.Numbers.{bit_added, bit_fits}
use Rattle.cqlp_columns.proofs.bits.add_bit.Goals as goal

pub overflow_add-bytes : goal.overflow_add-bytes
overflow_add-bytes c = omega (arith, bit_fits c.args.bytes.now c.args.at c.requires.below)

pub returns-then-bit : goal.returns-then-bit
returns-then-bit c = rw (c.if-bit.true) (bit_added c.args.bytes.now c.args.at c.requires.room)
