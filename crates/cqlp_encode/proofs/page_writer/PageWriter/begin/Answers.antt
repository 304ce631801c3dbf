use Rattle.cqlp_encode.proofs.Calls.{from_none}
use Rattle.cqlp_encode.proofs.PageSteps.{begins_anew}
use Rattle.cqlp_encode.proofs.page_writer.PageWriter.begin.Goals as goal

pub returns-clause-begins : goal.returns-clause-begins
returns-clause-begins g c = begins_anew _ _ _ _ _ c.begin_from.ensures.begins

pub returns-clause-calls : goal.returns-clause-calls
returns-clause-calls g c = from_none _ _ _ c.begin_from.ensures.calls
