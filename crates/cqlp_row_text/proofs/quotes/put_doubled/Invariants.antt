use Rattle.std.proofs.Common.{length}
use Rattle.cqlp_text.proofs.Writing.{Progress}
use Rattle.cqlp_row_text.specs.Quotes.{doubled}
use Rattle.cqlp_row_text.proofs.quotes.put_doubled.Given as goal

abbrev pub invariant-loop-rest : goal.invariant-loop-rest
invariant-loop-rest g l = Progress l.initial.writer (doubled l.a l.b l.bytes) (doubled l.a l.b l.rest) l.writer

abbrev pub decreases-loop-rest : goal.decreases-loop-rest
decreases-loop-rest g l = length l.rest
