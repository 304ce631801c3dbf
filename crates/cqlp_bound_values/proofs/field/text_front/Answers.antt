use Rattle.cqlp_bound_values.proofs.Texts.{front_of_text}
use Rattle.cqlp_bound_values.proofs.field.text_front.Goals as goal

pub returns-in-Ok : goal.returns-in-Ok
returns-in-Ok c = front_of_text _ _ c.in-Ok.ensures.cases.0 c.in-Ok.ensures.cases.1
