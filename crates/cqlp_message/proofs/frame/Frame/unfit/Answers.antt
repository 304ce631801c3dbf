use Rattle.std.proofs.Common.{sym, ◌∙◌}
use Rattle.cqlp_message.proofs.Tallies.{none_where_measured, some_where_not}
use Rattle.cqlp_message.proofs.frame.Frame.unfit.Goals as goal

pub returns-in-Ok-clause-is : goal.returns-in-Ok-clause-is
returns-in-Ok-clause-is c = sym (none_where_measured _ _ _ (sym c.measure.ensures.is ∙ c.in-Ok.is))

pub returns-in-Err-clause-is : goal.returns-in-Err-clause-is
returns-in-Err-clause-is c = sym (some_where_not _ _ _ (sym c.measure.ensures.is ∙ c.in-Err.is))
