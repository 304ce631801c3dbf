use Rattle.std.proofs.Common.{sym, ◌∙◌}
use Rattle.cqlp_message.proofs.Announced.{named_values}
use Rattle.cqlp_message.proofs.request.QueryParams.are_named.Goals as goal

pub returns-in-Some : goal.returns-in-Some
returns-in-Some c = rw c.in-Some.is ((rw c.deref.ensures.value at c.all_named.ensures) ∙ sym (named_values c.args.named c.in-Some.values.items))
