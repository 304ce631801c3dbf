use Rattle.std.proofs.Common.{refl}
use Rattle.cqlp_tool_laws.proofs.Turns.{turns_of_captures}
use Rattle.cqlp_tool_laws.proofs.numbers.promised_numbers.Goals as goal

pub returns-clause-turns : goal.returns-clause-turns
returns-clause-turns c = turns_of_captures

pub returns-clause-events : goal.returns-clause-events
returns-clause-events c = (refl, refl)

pub returns-clause-rows : goal.returns-clause-rows
returns-clause-rows c = (refl, refl, refl)
