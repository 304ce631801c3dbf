use Rattle.std.proofs.Common.{arith}
use Rattle.cqlp_encode.proofs.Checking.{not_passed, passed_on}
use Rattle.cqlp_encode.proofs.appending.CheckedTakesParts.take.Goals as goal

pub returns-then-self-le-LONGEST : goal.returns-then-self-le-LONGEST
returns-then-self-le-LONGEST g c = record {
  takes = λ before earlier h. passed_on before _ _ _ _ earlier _ h (c.take.ensures.takes tt earlier h.tally) (omega (arith, c.if-self-le-LONGEST.true)) c.take-then-self-le-LONGEST.ensures;
}

pub returns-else-self-le-LONGEST : goal.returns-else-self-le-LONGEST
returns-else-self-le-LONGEST g c = record {
  takes = λ before earlier h. not_passed before _ _ _ earlier _ h (c.take.ensures.takes tt earlier h.tally) (omega (arith, c.if-self-le-LONGEST.false));
}
