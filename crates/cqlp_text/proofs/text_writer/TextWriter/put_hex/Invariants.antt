use Rattle.std.proofs.Common.{length}
use Rattle.hex.specs.Hex.{encode_lower}
use Rattle.cqlp_text.proofs.Writing.{Progress}
use Rattle.cqlp_text.proofs.text_writer.TextWriter.put_hex.Given as goal

abbrev pub invariant-loop-block : goal.invariant-loop-block
invariant-loop-block g l = Progress l.initial.self (encode_lower l.bytes) (encode_lower l.rest) l.self

abbrev pub decreases-loop-block : goal.decreases-loop-block
decreases-loop-block g l = length l.rest
