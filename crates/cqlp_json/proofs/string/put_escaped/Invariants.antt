use Rattle.std.proofs.Common.{length}
use Rattle.cqlp_text.proofs.Writing.{Progress}
use Rattle.cqlp_json.specs.Strings.{escape}
use Rattle.cqlp_json.proofs.string.put_escaped.Given as goal

abbrev pub invariant-loop-rest : goal.invariant-loop-rest
invariant-loop-rest g l = Progress l.initial.writer (escape l.bytes) (escape l.rest) l.writer

abbrev pub decreases-loop-rest : goal.decreases-loop-rest
decreases-loop-rest g l = length l.rest
