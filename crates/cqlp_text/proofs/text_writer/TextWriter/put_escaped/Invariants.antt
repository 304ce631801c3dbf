use Rattle.std.proofs.Common.{length}
use Rattle.std.specs.List.{flat_map}
use Rattle.cqlp_text.specs.Text.{escaped}
use Rattle.cqlp_text.proofs.Writing.{Progress}
use Rattle.cqlp_text.proofs.text_writer.TextWriter.put_escaped.Given as goal

abbrev pub invariant-loop-rest : goal.invariant-loop-rest
invariant-loop-rest g l = Progress l.initial.self (flat_map escaped l.bytes) (flat_map escaped l.rest) l.self

abbrev pub decreases-loop-rest : goal.decreases-loop-rest
decreases-loop-rest g l = length l.rest
