use Rattle.std.proofs.Common.{drop}
use Rattle.cqlp_text.specs.Text.{in_one_line}
use Rattle.cqlp_text.proofs.Writing.{Progress}
use Rattle.cqlp_text.proofs.text_writer.TextWriter.put_in_one_line.Given as goal

abbrev pub invariant-loop-byte : goal.invariant-loop-byte
invariant-loop-byte g l = Progress l.fn.self (in_one_line l.bytes) (in_one_line (drop l.byte-index l.bytes)) l.self
